-- The row of a login after a grant or an end.
use mathlib.Core.Path.{◌≡◌, refl, sym, ap, ◌∙◌}
use mathlib.Core.Logic.{◌≢◌, ◌⊎◌, inl, inr}
use mathlib.Core.Bool.{Bool, true, false, cond, not, ◌||◌, false≢true}
use mathlib.Core.List.{List, [], ◌∷◌, Memᴰ}
use Prim.Native.Nat.{ℕ, zero, suc, ◌-◌}
use lib.Dec.{ltb}
use lib.ListN.{length, take}
use native.Mathlib.Decide.{ℕ_discrete}
use borrow.Author.Tests.{eqb-true, eq-eqb, ne_eqb}
use Rattle.lists.specs.Fold.{first}
use Rattle.lists.specs.Table.{keep, fill}
use Rattle.lists.proofs.Firsts.{first-keep, first-fill, first-listed, first_passes}
use Rattle.state.specs.Limits.{login_rows}
use Rattle.state.specs.declared.Login.{Login}
use Rattle.state.specs.Rows.{no_login, is_login}
use Rattle.tables.proofs.LoginTable.{room-cases, unlisted-ended}
use Rattle.tables.specs.Logins.{is_named, find_login, is_listed, end_login, insert_login, add_login, make_room, grant_login}

-- A login is listed where a used row has its name: that one is found.
pub found-row : (login : ℕ) (rows : List Login) → is_listed login rows ≡ true
    → Memᴰ (find_login login rows) rows × ((find_login login rows).login ≡ login)
unfolding is_listed find_login
found-row login rows e = by (first-listed (is_named login) no_login rows)
  where
    row : Login
    row = first (is_named login) no_login rows

    by : (row ≡ no_login) ⊎ (Memᴰ row rows × (is_named login row ≡ true)) → Memᴰ row rows × (row.login ≡ login)
    by (inl f) = absurd (false≢true (ap is_login (sym f) ∙ e))
    by (inr f) = (f.0, eqb-true row.login login f.1)

pub listed-row : {r : Login} {rows : List Login} → Memᴰ r rows → is_login r ≡ true → is_listed r.login rows ≡ true
unfolding is_listed find_login
listed-row {r} {rows} m u =
    let row = first (is_named r.login) no_login rows in
    let same = eqb-true row.login r.login (first_passes (is_named r.login) no_login m (eq-eqb r.login r.login refl)) in
    rw same u

-- a row that is found among the first n rows is the one among all
find-take : (login n : ℕ) (rows : List Login) → is_login (first (is_named login) no_login (take n rows)) ≡ true
    → first (is_named login) no_login (take n rows) ≡ first (is_named login) no_login rows
unfolding first
find-take login zero rows e = absurd (false≢true e)
find-take login (suc n) [] e = refl
find-take login (suc n) (r ∷ rs) e = at (is_named login r) e (find-take login n rs)
  where
    at : (b : Bool) → is_login (cond b r (first (is_named login) no_login (take n rs))) ≡ true
        → (is_login (first (is_named login) no_login (take n rs)) ≡ true → first (is_named login) no_login (take n rs) ≡ first (is_named login) no_login rs)
        → cond b r (first (is_named login) no_login (take n rs)) ≡ cond b r (first (is_named login) no_login rs)
    at true e h = refl
    at false e h = h e

-- ---- insert

find-inserted : (x : Login) (rows : List Login) → first (is_named x.login) no_login (insert_login x rows) ≡ x
unfolding first insert_login
find-inserted x [] = rw (eq-eqb x.login x.login refl)
find-inserted x (r ∷ rs) = at (is_named x.login r) (not (is_login r) || ltb x.login r.login) refl (find-inserted x rs)
  where
    at : (a b : Bool) → is_named x.login r ≡ a → first (is_named x.login) no_login (insert_login x rs) ≡ x
        → first (is_named x.login) no_login (cond a (x ∷ rs) (cond b (x ∷ r ∷ rs) (r ∷ insert_login x rs))) ≡ x
    at true b e h = rw (eq-eqb x.login x.login refl)
    at false true e h = rw (eq-eqb x.login x.login refl)
    at false false e h = rw e h

find-others : (login : ℕ) (x : Login) (rows : List Login) → x.login ≢ login
    → first (is_named login) no_login (insert_login x rows) ≡ first (is_named login) no_login rows
unfolding first insert_login
find-others login x [] n = rw (ne_eqb x.login login n)
find-others login x (r ∷ rs) n = at (is_named x.login r) (not (is_login r) || ltb x.login r.login) refl (find-others login x rs n)
  where
    at : (a b : Bool) → is_named x.login r ≡ a → first (is_named login) no_login (insert_login x rs) ≡ first (is_named login) no_login rs
        → first (is_named login) no_login (cond a (x ∷ rs) (cond b (x ∷ r ∷ rs) (r ∷ insert_login x rs))) ≡ first (is_named login) no_login (r ∷ rs)
    at true b e h = let same = eqb-true r.login x.login e in rw (ne_eqb x.login login n, ne_eqb r.login login (λ z. n (sym same ∙ z)))
    at false true e h = rw (ne_eqb x.login login n)
    at false false e h = ap (λ (y : Login). cond (is_named login r) r y) h

-- ---- grant and end

pub end-others : (login ended : ℕ) (rows : List Login) → ended ≢ login → find_login login (end_login ended rows) ≡ find_login login rows
unfolding find_login end_login fill
end-others login ended rows n =
    let kept = keep (λ r. not (is_named ended r)) rows in
    first-fill (is_named login) no_login (login_rows - length kept) kept
    ∙ first-keep (is_named login) no_login (λ r. not (is_named ended r))
    (λ r e. ap not (ne_eqb r.login ended (λ z. n (sym z ∙ eqb-true r.login login e)))) rows

-- A row that is found once there is room is the one that was found before.
found-in-room : (login l : ℕ) (rows : List Login) → is_listed login (make_room l rows) ≡ true → find_login login (make_room l rows) ≡ find_login login rows
found-in-room login l rows =
    room-cases (λ left. is_listed login left ≡ true → find_login login left ≡ find_login login rows) l rows (λ e. refl) (λ k e. at k e (ℕ_discrete k login))
  where
    at : (k : ℕ) → is_listed login (end_login k rows) ≡ true → Dec (k ≡ login) → find_login login (end_login k rows) ≡ find_login login rows
    at k e (yes same) = absurd (false≢true (sym (rw same (unlisted-ended login rows)) ∙ e))
    at k e (no n) = end-others login k rows n

pub grant-found : (login : ℕ) (x : Login) (rows : List Login) → x.login ≡ login → is_listed login (grant_login x rows) ≡ true → find_login login
    (grant_login x rows) ≡ x
unfolding is_listed find_login grant_login add_login
grant-found login x rows same e =
    let left = make_room x.login rows in
    find-take login login_rows (insert_login x left) e ∙ ap (λ (l : ℕ). first (is_named l) no_login (insert_login x left)) (sym same)
    ∙ find-inserted x left

pub grant-others : (login : ℕ) (x : Login) (rows : List Login) → x.login ≢ login → is_listed login (grant_login x rows) ≡ true
    → find_login login (grant_login x rows) ≡ find_login login rows
unfolding is_listed find_login grant_login add_login
grant-others login x rows n e =
    let left = make_room x.login rows in
    let there = find-take login login_rows (insert_login x left) e ∙ find-others login x left n in
    there ∙ found-in-room login x.login rows (ap is_login (sym there) ∙ e)
