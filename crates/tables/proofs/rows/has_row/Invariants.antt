use Rattle.std.proofs.Common.{◌≡◌, ◌||◌, Bool, drop}
use Rattle.lists.specs.Fold.{any}
use Rattle.tables.proofs.rows.has_row.Given as goal

abbrev pub invariant-loop-row : goal.invariant-loop-row
invariant-loop-row g l = (p : g.row.T.Denot → Bool) → ((x : g.row.T.Denot) (r : Bool) → goal.F-post g l.passes x r → r ≡ p x)
    → any p l.row-items ≡ (l.found || any p (drop l.row-index l.row-items))
