use Rattle.std.proofs.Common.{arith}
use Rattle.shares.proofs.Sums.{sums-written}
use Rattle.shares.proofs.adding.put_sums.Goals as goal

pub returns : goal.returns
returns c = sums-written c.args.first.now c.args.second.now _ _ _ c.loop-i.invariant (omega arith) (omega arith)
