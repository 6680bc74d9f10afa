-- Words of the code's contracts. Nothing of the paper.
use Rattle.std.specs.Prelude.{ℕ, List, Bool, cond, not, ◌||◌, ltb, Option, Some, None}
use Rattle.state.specs.declared.Login.{Login}
use Rattle.state.specs.Rows.{is_login}
use Rattle.tables.specs.Logins.{is_named, needs_row, earliest_row}

-- a new row of that login takes this row's place or comes before it
abbrev pub is_place : ℕ → Login → Bool
is_place login r = is_named login r || (not (is_login r) || ltb login r.login)

-- the row that a grant of the login evicts, where it needs one
abbrev pub eviction_for : ℕ → List Login → Option Login
eviction_for login rows = cond (needs_row login rows) (Some (earliest_row rows)) None
