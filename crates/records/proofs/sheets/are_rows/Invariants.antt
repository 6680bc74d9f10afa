use mathlib.Core.Path.{◌≡◌}
use lib.Dec.{ltb}
use lib.ListN.{drop}
use Rattle.lists.specs.Fold.{all}
use Rattle.records.specs.Sheet.{rows_of}
use Rattle.records.proofs.sheets.are_rows.Given as goal

abbrev pub invariant-loop-i : goal.invariant-loop-i
invariant-loop-i l = all (λ x. ltb x.seat 32) (rows_of l.b) ≡ all (λ x. ltb x.seat 32) (drop l.i (rows_of l.b))
