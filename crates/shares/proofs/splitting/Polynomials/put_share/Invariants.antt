use Rattle.std.proofs.Common.{◌≡◌}
use Rattle.shares.specs.Shares.{key_size, tabulate}
use Rattle.shares.proofs.Steps.{value_from}
use Rattle.shares.proofs.splitting.Polynomials.put_share.Given as goal

abbrev pub invariant-loop-i : goal.invariant-loop-i
invariant-loop-i l = l.row ≡ tabulate key_size (value_from l.self.needed l.x l.self.coefficients.now l.i)
