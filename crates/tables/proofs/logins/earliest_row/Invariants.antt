use Rattle.std.proofs.Common.{◌≡◌, get_or, drop}
use Rattle.lists.specs.Fold.{least}
use Rattle.state.specs.Rows.{no_login}
use Rattle.tables.specs.Logins.{is_earlier}
use Rattle.tables.proofs.logins.earliest_row.Given as goal

abbrev pub invariant-loop-row : goal.invariant-loop-row
invariant-loop-row l =
    least is_earlier (get_or l.fn.rows 0 no_login) l.fn.rows ≡ least is_earlier l.earliest (drop l.row-index l.row-items)
