-- "Grants into a full list" (02, A8): what a performed announcement leaves of the listed logins.
use Rattle.std.specs.Prelude.{◌≡◌, ◌≢◌, true, false, not, ◌&&◌, ℕ, take}
use mathlib.Core.List.{List, Memᴰ}
use Rattle.lists.specs.Fold.{count}
use Rattle.refusals.specs.Refusals.{refuse_if, ◌or_else◌}
use Rattle.state.specs.declared.Day.{Day}
use Rattle.state.specs.declared.Login.{Login}
use Rattle.state.specs.declared.State.{State}
use Rattle.state.specs.Limits.{login_rows}
use Rattle.state.specs.Time.{is_before_day, DayBefore}
use Rattle.state.specs.Rows.{is_login}
use Rattle.state.specs.WellFormed.{are_well_formed_logins}
use Rattle.tables.specs.Logins.{logins_full, is_listed, insert_login, needs_row, earliest_row}
use Rattle.tables.specs.Claims.{IsEarliest}
use Rattle.records.specs.declared.Announcement.{Announcement}
use Rattle.records.specs.declared.Action.TheVariants.{Grant, End}
use Rattle.records.specs.Claims.{AnnouncementInRange}
use Rattle.rules.specs.Rules.{check_refusal}
use Rattle.actions.specs.Perform.{without_lapsed, perform}
use Rattle.actions.specs.Claims.{WellFormed, Admitted}

-- ---- "A grant that was accepted before gives the same list as before."

-- Rules 11 and 14 for a grant, and what it did to the list, before A8. They stand here for this claim alone, as they were written.
abbrev pub was_refused : State → Day → Login → ℕ
was_refused s d x =
    refuse_if (logins_full s.logins && not (is_listed x.login s.logins)) 11
    or_else refuse_if (is_before_day x.end d) 14

abbrev pub was_granted : Login → List Login → List Login
was_granted x rows = take login_rows (insert_login x rows)

pub record AsBefore (s : State) (a : Announcement) (x : Login) : Type 0 where
  pub number : check_refusal (without_lapsed a.day s) a.day a.action ≡ was_refused s a.day x
  pub list : (perform s a).logins ≡ was_granted x s.logins

-- In every state, well formed or not, a grant that was not given 11 is given the same number, and leaves the same list.
abbrev pub GrantsAsBefore : Type 0
GrantsAsBefore = (s : State) (a : Announcement) (x : Login) → a.action ≡ Grant x → was_refused s a.day x ≢ 11 → AsBefore s a x

-- ---- what is evicted, and what stays

-- The grant of x, announced as a, evicts the row r from the list of s.
pub record Evicts (s : State) (a : Announcement) (x r : Login) : Type 0 where
  pub grants : a.action ≡ Grant x
  -- the list was full, and x not listed
  pub needed : needs_row x.login s.logins ≡ true
  -- it is the one row that the definition names
  pub row : r ≡ earliest_row s.logins
  pub earliest : IsEarliest s.logins r
  -- "if that end day lies before the announced day"
  pub over : DayBefore r.end a.day
  -- it is gone, x has come, and the list is in order and has 64 logins again
  pub gone : is_listed r.login (perform s a).logins ≡ false
  pub come : Memᴰ x (perform s a).logins
  pub sorted : are_well_formed_logins (perform s a).logins ≡ true
  pub full : count is_login (perform s a).logins ≡ login_rows

-- What becomes of a listed row where an announcement is performed.
pub data RowAfter (s : State) (a : Announcement) (r : Login) : Type 0 where
  stays : Memᴰ r (perform s a).logins → RowAfter s a r
  ended : a.action ≡ End r.login → RowAfter s a r
  replaced : (x : Login) → a.action ≡ Grant x → x.login ≡ r.login → RowAfter s a r
  evicted : (x : Login) → Evicts s a x r → RowAfter s a r

-- So no row goes that the announcement doesn't name, but one: that which a grant evicts.
abbrev pub RowsStay : Type 0
RowsStay = (s : State) (a : Announcement) (mask1 mask2 : ℕ) → WellFormed s → AnnouncementInRange a → Admitted s a mask1 mask2
    → (r : Login) → Memᴰ r s.logins → is_login r ≡ true → RowAfter s a r

-- It is a function of the state and the announcement: two nodes of one state evict the same row.
abbrev pub OneEvicted : Type 0
OneEvicted = (s : State) (a : Announcement) (x y r q : Login) → Evicts s a x r → Evicts s a y q → (x ≡ y) × (r ≡ q)

-- Where a grant needs a row, one is evicted.
abbrev pub NeedEvicts : Type 0
NeedEvicts = (s : State) (a : Announcement) (mask1 mask2 : ℕ) → WellFormed s → AnnouncementInRange a → Admitted s a mask1 mask2
    → (x : Login) → a.action ≡ Grant x → needs_row x.login s.logins ≡ true → Evicts s a x (earliest_row s.logins)
