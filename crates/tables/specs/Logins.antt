-- "at most 64 logins"
use Rattle.std.specs.Prelude.{ℕ, ◌-◌, List, [], ◌∷◌, Bool, cond, not, ◌&&◌, ◌||◌, eqb, ltb, get_or, take}
use Rattle.lists.specs.Fold.{first, least}
use Rattle.lists.specs.Table.{keep, fill}
use Rattle.state.specs.declared.Day.{Day}
use Rattle.state.specs.declared.Login.{Login}
use Rattle.state.specs.Limits.{login_rows}
use Rattle.state.specs.Time.{is_before_day, is_same_day}
use Rattle.state.specs.Rows.{no_login, is_login, is_ended}

-- the last row is used
abbrev pub logins_full : List Login → Bool
logins_full rows = is_login (get_or rows (login_rows - 1) no_login)

abbrev pub is_named : ℕ → Login → Bool
is_named login r = eqb r.login login

-- the row of that login, or an unused row
unfoldable pub find_login : ℕ → List Login → Login
find_login login rows = first (is_named login) no_login rows

unfoldable pub is_listed : ℕ → List Login → Bool
is_listed login rows = is_login (find_login login rows)

-- "drops it"; "Freed rows are used again."
unfoldable pub end_login : ℕ → List Login → List Login
end_login login rows = fill login_rows no_login (keep (λ r. not (is_named login r)) rows)

-- x in the place of the row of its name, or before the first row that is unused or has a higher login
unfoldable pub insert_login : Login → List Login → List Login
insert_login x [] = x ∷ []
insert_login x (r ∷ rs) =
    cond (is_named x.login r) (x ∷ rs)
    (cond (not (is_login r) || ltb x.login r.login) (x ∷ r ∷ rs)
    (r ∷ insert_login x rs))

-- "adds or replaces the login"
unfoldable pub add_login : Login → List Login → List Login
add_login x rows = take login_rows (insert_login x rows)

-- ---- "Grants into a full list" (02, A8)

-- "table full and the row is needed": "Where document 01 gives 11 to a grant"
abbrev pub needs_row : ℕ → List Login → Bool
needs_row login rows = logins_full rows && not (is_listed login rows)

-- r has an earlier end day than x, or the same and a smaller login
abbrev pub is_earlier : Login → Login → Bool
is_earlier r x = is_before_day r.end x.end || (is_same_day r.end x.end && ltb r.login x.login)

-- "the row with the earliest end day, the smallest login among equals": the one that a grant evicts (02: drops) where it needs a row
unfoldable pub earliest_row : List Login → Login
earliest_row rows = least is_earlier (get_or rows 0 no_login) rows

-- 11 for a grant: a row is needed, and that one is not over. It goes "if that end day lies before the announced day. Otherwise 11 remains."
abbrev pub lacks_row : Day → ℕ → List Login → Bool
lacks_row announced login rows = needs_row login rows && not (is_ended announced (earliest_row rows))

-- "performing it now drops the row"
unfoldable pub make_room : ℕ → List Login → List Login
make_room login rows = cond (needs_row login rows) (end_login (earliest_row rows).login rows) rows

-- 8 grant: the row of x in its place, once there is room
unfoldable pub grant_login : Login → List Login → List Login
grant_login x rows = add_login x (make_room x.login rows)
