use mathlib.Core.Path.{◌≡◌}
use mathlib.Core.Bool.{◌&&◌}
use lib.Dec.{eqb}
use lib.ListN.{drop}
use Rattle.lists.specs.Fold.{all}
use Rattle.binary.proofs.is_zero_from.Given as goal

abbrev pub invariant-loop-i : goal.invariant-loop-i
invariant-loop-i l = all (λ x. eqb x 0) (drop l.at l.b) ≡ (l.zero && all (λ x. eqb x 0) (drop l.i l.b))
