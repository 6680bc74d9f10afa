-- The table of logins after a grant and after an end, and which logins it then lists.
use mathlib.Core.Path.{◌≡◌, refl, sym, ap, ◌∙◌}
use mathlib.Core.Logic.{◌≢◌}
use mathlib.Core.Bool.{Bool, true, false, cond, not, ◌||◌, true≢false}
use mathlib.Core.List.{List, [], ◌∷◌}
use Prim.Native.Nat.{ℕ, zero, suc, ◌≤◌, ◌<◌}
use native.Mathlib.Omega.{arith}
use lib.Dec.{ltb}
use lib.ListN.{length, take, length-take}
use borrow.Author.Tests.{eqb-true, eqb-false, ne_eqb, ltb-true, ltb-false, not-true, not-false}
use Rattle.lists.specs.Fold.{any, first}
use Rattle.lists.specs.Table.{keep}
use Rattle.lists.proofs.Tests.{cond_cases, or-false-of}
use Rattle.lists.proofs.Every.{All, none, more, all_keep, all-fill, all_map, all_take, keep-passes, none_of, none-to}
use Rattle.lists.proofs.Tables.{Rising, unused, row, rising-lower, rising-take, IsTable, table-drop}
use Rattle.state.specs.Limits.{login_rows}
use Rattle.state.specs.declared.Login.{Login}
use Rattle.state.specs.Rows.{no_login, is_login}
use Rattle.tables.specs.Logins.{is_named, find_login, is_listed, end_login, insert_login, add_login, needs_row, make_room, grant_login}

-- The three cases of an insert: the row of that name is replaced, the new row stands before this one, or the insert goes on after it.
pub insert-cases : (P : List Login → Type 0) (x r : Login) (rs : List Login) → (r.login ≡ x.login → P (x ∷ rs))
    → ((is_login r ≡ true → x.login < r.login) → P (x ∷ r ∷ rs)) → (is_login r ≡ true → r.login < x.login → P (r ∷ insert_login x rs))
    → P (insert_login x (r ∷ rs))
unfolding insert_login
insert-cases P x r rs same before after =
    cond_cases P (is_named x.login r) (λ e. same (eqb-true _ _ e))
    (λ e. cond_cases P (not (is_login r) || ltb x.login r.login)
    (λ f. before (λ u. ltb-true _ _ (rw u at f)))
    (λ f.
    let h = or-false-of (not (is_login r)) (ltb x.login r.login) f in
    let k = ltb-false x.login r.login h.1 in
    let n = eqb-false r.login x.login e in
    after (not-false _ h.0) (omega arith)))

-- What an insert keeps: a property of each row, the order, and the rows that there are.
all_insert : {P : Login → Type 0} {x : Login} {rows : List Login} → All P rows → P x → All P (insert_login x rows)
unfolding insert_login
all_insert none h = more h none
all_insert {P} {x} (more g t) h = insert-cases (All P) x _ _ (λ e. more h t) (λ f. more h (more g t)) (λ u f. more g (all_insert t h))

abbrev pub RisingLogins : ℕ → List Login → Type 0
RisingLogins = Rising is_login (λ r. r.login)

pub rising-insert : {lo : ℕ} {rows : List Login} (x : Login) → is_login x ≡ true → lo ≤ x.login → RisingLogins lo rows → RisingLogins lo
    (insert_login x rows)
unfolding insert_login
rising-insert x u l (unused none) = row u l (unused none)
rising-insert {lo} x u l (unused (more v h)) =
    insert-cases (RisingLogins lo) x _ _ (λ e. row u l (unused h)) (λ b. row u l (unused (more v h))) (λ w b. absurd (true≢false (sym w ∙ v)))
rising-insert {lo} x u l (row {r = r} v k h) =
    insert-cases (RisingLogins lo) x r _
    (λ e. row u l (rising-lower (omega arith) h)) (λ b. row u l (row v (b v) h)) (λ w b. row v k (rising-insert x u b h))

length-insert : (x : Login) (rows : List Login) → length rows ≤ length (insert_login x rows)
unfolding insert_login
length-insert x [] = omega arith
length-insert x (r ∷ rs) =
    let k = length-insert x rs in
    insert-cases (λ l. suc (length rs) ≤ length l) x r rs (λ e. omega arith) (λ b. omega arith) (λ u b. omega arith)

-- What holds of the table as it is and of the table without any one login holds of the table in which there is room.
pub room-cases : (P : List Login → Type 0) (login : ℕ) (rows : List Login) → P rows → ((l : ℕ) → P (end_login l rows)) → P (make_room login rows)
unfolding make_room
room-cases P login rows same less = cond_cases P (needs_row login rows) (λ e. less _) (λ e. same)

pub table-room : {Ok : Login → Type 0} {rows : List Login} (login : ℕ) → IsTable is_login (λ r. r.login) 1 login_rows Ok rows → Ok no_login
    → IsTable is_login (λ r. r.login) 1 login_rows Ok (make_room login rows)
unfolding end_login
table-room {Ok} {rows} login t z =
    room-cases (IsTable is_login (λ r. r.login) 1 login_rows Ok) login rows t (λ l. table-drop t _ no_login refl z)

-- A grant leaves a table, if the new row and an unused one are as all others.
pub table-grant : {Ok : Login → Type 0} {rows : List Login} (x : Login) → IsTable is_login (λ r. r.login) 1 login_rows Ok rows → is_login x ≡ true
    → 1 ≤ x.login → Ok x → Ok no_login
    → IsTable is_login (λ r. r.login) 1 login_rows Ok (grant_login x rows)
unfolding grant_login add_login
table-grant {Ok} {rows} x t u l o z =
    let left = make_room x.login rows in
    let room = table-room x.login t z in
    record {
      size =
          let k = length-insert x left in
          let m = room.size in
          simp length-take (omega arith);
      rising = rising-take login_rows (rising-insert x u l room.rising);
      each = all_take login_rows (all_insert room.each o);
    }

-- 0 names no login.
unlisted-zero : (rows : List Login) → is_listed 0 rows ≡ false
unfolding is_listed find_login first
unlisted-zero [] = refl
unlisted-zero (r ∷ rs) = cond_cases (λ x. is_login x ≡ false) (is_named 0 r) (λ e. ap not e) (λ e. unlisted-zero rs)

-- Any other login is listed where some row has its name.
listed-any : (login : ℕ) (rows : List Login) → login ≢ 0 → is_listed login rows ≡ any (is_named login) rows
unfolding is_listed find_login first any
listed-any login [] z = refl
listed-any login (r ∷ rs) z = at (is_named login r) refl (listed-any login rs z)
  where
    at : (b : Bool) → is_named login r ≡ b → is_listed login rs ≡ any (is_named login) rs
        → is_login (cond b r (first (is_named login) no_login rs)) ≡ (b || any (is_named login) rs)
    at true e h = rw (eqb-true r.login login e, ne_eqb login 0 z)
    at false e h = h

-- A login is not listed exactly where it is 0 or all rows have other names.
unlisted : (login : ℕ) (rows : List Login) → (login ≢ 0 → All (λ r. is_named login r ≡ false) rows) → is_listed login rows ≡ false
unlisted zero rows f = unlisted-zero rows
unlisted (suc l) rows f = listed-any (suc l) rows (omega arith) ∙ none-to (is_named (suc l)) (f (omega arith))

pub others : (login : ℕ) (rows : List Login) → is_listed login rows ≡ false → login ≢ 0 → All (λ r. is_named login r ≡ false) rows
others login rows e z = none_of (is_named login) rows (sym (listed-any login rows z) ∙ e)

-- After an end a login is not listed, if no row that was kept has its name.
unlisted-kept : (login ended : ℕ) (rows : List Login) → (login ≢ 0 → All (λ r. is_named login r ≡ false) (keep (λ r. not (is_named ended r)) rows))
    → is_listed login (end_login ended rows) ≡ false
unfolding end_login
unlisted-kept login ended rows f = unlisted login (end_login ended rows) (λ z. all-fill login_rows (f z) (ne_eqb 0 login (λ e. z (sym e))))

-- So an end lists no login that was not listed, and the ended one is not listed.
pub unlisted-end : (login ended : ℕ) (rows : List Login) → is_listed login rows ≡ false → is_listed login (end_login ended rows) ≡ false
unlisted-end login ended rows e = unlisted-kept login ended rows (λ z. all_keep _ (others login rows e z))

pub unlisted-ended : (login : ℕ) (rows : List Login) → is_listed login (end_login login rows) ≡ false
unlisted-ended login rows = unlisted-kept login login rows (λ z. all_map (λ r e. not-true _ e) (keep-passes (λ r. not (is_named login r)) rows))

-- A grant of another name lists no login that was not listed.
pub unlisted-added : (login : ℕ) (x : Login) (rows : List Login) → is_named login x ≡ false → is_listed login rows ≡ false
    → is_listed login (add_login x rows) ≡ false
unfolding add_login
unlisted-added login x rows n e = unlisted login (take login_rows (insert_login x rows))
    (λ z. all_take login_rows (all_insert (others login rows e z) n))

pub unlisted-grant : (login : ℕ) (x : Login) (rows : List Login) → is_named login x ≡ false → is_listed login rows ≡ false
    → is_listed login (grant_login x rows) ≡ false
unfolding grant_login
unlisted-grant login x rows n e = unlisted-added login x (make_room x.login rows) n
    (room-cases (λ l. is_listed login l ≡ false) x.login rows e (λ l. unlisted-end login l rows e))
