use mathlib.Core.Path.{◌≡◌}
use lib.ListN.{length}
use Rattle.lists.specs.Code.{insert_at}
use Rattle.state.specs.Limits.{login_rows}
use Rattle.tables.proofs.logins.insert_row.Given as goal

abbrev pub invariant-loop-i : goal.invariant-loop-i
invariant-loop-i l = (length l.out ≡ login_rows) × (insert_at l.i l.next l.out ≡ insert_at l.at l.fn.x l.fn.rows)
