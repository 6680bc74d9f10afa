use Rattle.std.proofs.Common.{get_or}
use Rattle.gf256.specs.Field.{add}
use Rattle.shares.proofs.Tabulated.{Tabulated}
use Rattle.shares.proofs.adding.put_sums.Given as goal

abbrev pub invariant-loop-i : goal.invariant-loop-i
invariant-loop-i l = Tabulated l.initial.out l.i (λ j. add (get_or l.first j 0) (get_or l.second j 0)) l.out
