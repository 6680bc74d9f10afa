use Rattle.std.proofs.Common.{arith}
use Rattle.std.proofs.lemmas.Grind.{common_steps}
use Rattle.shares.specs.Calls.{merge_of}
use Rattle.shares.proofs.Writes.{merged-written}
use Rattle.shares.proofs.merging.merge_shares.Goals as goal

pub returns-clause-out_after : goal.returns-clause-out_after
unfolding merge_of
returns-clause-out_after c =
    let a = c.args in
    grind (arith, common_steps, merged-written c.in_ok-needed.field-0.needed a.numbers.now a.shares.now (omega arith) _ a.out.now c.put_key.ensures)
