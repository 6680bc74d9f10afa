use Prim.Native.Nat.{◌+◌, ◌≤◌}
use mathlib.Core.Path.{◌≡◌}
use lib.ListN.{drop}
use Rattle.lists.specs.Fold.{count}
use Rattle.tables.proofs.rows.count_used.Given as goal

abbrev pub invariant-loop-row : goal.invariant-loop-row
invariant-loop-row g l =
    (l.n ≤ l.row-index) × (l.n + count g.T.Row.used (drop l.row-index l.row-items) ≡ count g.T.Row.used l.row-items)
