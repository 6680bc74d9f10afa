use Rattle.std.proofs.Common.{◌≡◌, ℕ, Bool, true, false, cond, List, Option, Some, None, refl, sym, ◌∙◌}
use Rattle.state.specs.declared.Login.{Login}
use Rattle.tables.specs.Logins.{needs_row, earliest_row, end_login, make_room, grant_login}
use Rattle.tables.specs.Code.{eviction_for}
use Rattle.tables.proofs.logins.grant_login.Goals.{in-Some, in-None}
use Rattle.tables.proofs.logins.grant_login.Goals as goal

-- the table once there is room, by what the grant evicts
evicts : (login : ℕ) (rows : List Login) (row : Login) → eviction_for login rows ≡ Some row → make_room login rows ≡ end_login row.login rows
unfolding make_room
evicts login rows row = at (needs_row login rows)
  where
    at : (b : Bool) → cond b (Some (earliest_row rows)) None ≡ Some row → cond b (end_login (earliest_row rows).login rows) rows ≡ end_login row.login rows
    at true e = let same : earliest_row rows ≡ row = cc in rw same
    at false e = cc

evicts-none : (login : ℕ) (rows : List Login) → eviction_for login rows ≡ None → make_room login rows ≡ rows
unfolding make_room
evicts-none login rows = at (needs_row login rows)
  where
    at : (b : Bool) → cond {A = Option Login} b (Some (earliest_row rows)) None ≡ None → cond b (end_login (earliest_row rows).login rows) rows ≡ rows
    at true e = cc
    at false e = refl

pub returns : goal.returns
unfolding grant_login
returns c =
    let x = c.args.x in
    let rows = c.args.rows in
    let room : c.match-eviction.left ≡ make_room x.login rows =
    elim c.match-eviction.branch [
      | in-Some w ↦ w.left-is ∙ w.end_login-left.ensures ∙ sym (evicts x.login rows w.in-Some.row (sym c.requires ∙ w.in-Some.is))
      | in-None w ↦ w.left-is ∙ sym (evicts-none x.login rows (sym c.requires ∙ w.in-None.is))
    ] in
    rw (← room) c.add_login.ensures
