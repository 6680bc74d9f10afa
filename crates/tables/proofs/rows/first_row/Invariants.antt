use Rattle.std.proofs.Common.{◌≡◌, Bool, drop}
use Rattle.lists.specs.Fold.{first}
use Rattle.tables.proofs.rows.first_row.Given as goal

abbrev pub invariant-loop-row : goal.invariant-loop-row
invariant-loop-row g l = (p : g.row.T.Denot → Bool) → ((x : g.row.T.Denot) (r : Bool) → goal.F-post g l.passes x r → r ≡ p x)
    → first p g.T.Row.UNUSED l.row-items ≡ first p g.T.Row.UNUSED (drop l.row-index l.row-items)
