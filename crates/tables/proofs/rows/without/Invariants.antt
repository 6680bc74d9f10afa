use Rattle.std.proofs.Common.{◌≡◌, ◌≤◌, Bool, not, length}
use Rattle.lists.proofs.Loops.{Kept}
use Rattle.tables.proofs.rows.without.Given as goal

abbrev pub invariant-loop-row : goal.invariant-loop-row
invariant-loop-row g l =
    (l.j ≤ l.row-index) × (length l.out ≡ g.row.N)
    × ((dropped : g.row.T.Denot → Bool) → ((x : g.row.T.Denot) (r : Bool) → goal.F-post g l.drops x r → r ≡ dropped x)
    → Kept (λ r. not (dropped r)) g.row.N g.T.Row.UNUSED l.row-items l.row-index l.j l.out)
