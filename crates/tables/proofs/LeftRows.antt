-- Which rows a grant leaves, and how many.
use mathlib.Core.Path.{◌≡◌, refl, sym, ap, ◌∙◌}
use mathlib.Core.Logic.{◌≢◌, ◌⊎◌, inl, inr}
use mathlib.Core.Bool.{Bool, true, false, cond, not, ◌&&◌, and-eq-true_iff, true≢false}
use mathlib.Core.List.{List, [], ◌∷◌, Memᴰ}
use Prim.Native.Nat.{ℕ, suc, ◌-◌, ◌≤◌}
use native.Mathlib.Omega.{arith}
use lib.Dec.{eqb}
use lib.ListN.{length}
use borrow.Author.Tests.{eqb-true, eq-eqb, ne_eqb, not-true, not-false}
use Rattle.lists.specs.Fold.{count}
use Rattle.lists.specs.Table.{keep}
use Rattle.lists.proofs.Every.{All, none, more}
use Rattle.lists.proofs.Count.{count-length}
use Rattle.lists.proofs.Members.{all_in, to-keep}
use Rattle.lists.proofs.Tables.{unused, row, IsTable}
use Rattle.lists.proofs.TableMembers.{to_fill, keep_all, keep-fewer, at-index, fill-behind, rising-above, rising-one}
use Rattle.lists.proofs.TableCounts.{count_less, count-fill, rising-taken, count-taken, rising-full}
use Rattle.state.specs.Limits.{login_rows}
use Rattle.state.specs.declared.Login.{Login}
use Rattle.state.specs.Rows.{no_login, is_login}
use Rattle.tables.specs.Logins.{logins_full, is_named, is_listed, end_login, insert_login, add_login, needs_row, earliest_row, make_room, grant_login}
use Rattle.tables.proofs.LoginTable.{RisingLogins, insert-cases, rising-insert, others, table-room, unlisted-ended, unlisted-added, unlisted-end}
use Rattle.tables.proofs.FoundLogins.{found-row, listed-row}
use Rattle.tables.proofs.Earliest.{earliest-is-first}

-- ---- the rows after an insert

module _ (x : Login) where
  pub has-insert : (rows : List Login) → Memᴰ x (insert_login x rows)
  unfolding insert_login
  has-insert [] = Memᴰ.head refl
  has-insert (r ∷ rs) =
      insert-cases (Memᴰ x) x r rs (λ e. Memᴰ.head refl) (λ b. Memᴰ.head refl) (λ u b. Memᴰ.tail (has-insert rs))

  to-insert : {r : Login} {rows : List Login} → Memᴰ r rows → r.login ≢ x.login → Memᴰ r (insert_login x rows)
  to-insert {r} (Memᴰ.head {x = q} {xs = qs} e) n =
      insert-cases (Memᴰ r) x q qs (λ s. absurd (n (ap (λ (v : Login). v.login) e ∙ s))) (λ b. Memᴰ.tail (Memᴰ.head e))
      (λ u b. Memᴰ.head e)
  to-insert {r} (Memᴰ.tail {x = q} {xs = qs} m) n =
      insert-cases (Memᴰ r) x q qs (λ s. Memᴰ.tail m) (λ b. Memᴰ.tail (Memᴰ.tail m)) (λ u b. Memᴰ.tail (to-insert m n))

  count-insert : (rows : List Login) → count is_login (insert_login x rows) ≤ suc (count is_login rows)
  unfolding insert_login count
  count-insert [] = let k = count-length is_login (x ∷ []) in omega arith
  count-insert (r ∷ rs) =
      let k = count-insert rs in
      let one = count-length is_login (x ∷ []) in
      insert-cases (λ l. count is_login l ≤ suc (count is_login (r ∷ rs))) x r rs (λ e. omega arith) (λ b. omega arith) (λ u b. omega arith)

  -- a login that is not listed takes a row more, one that is listed none
  count-new : (rows : List Login) → is_login x ≡ true → All (λ r. is_named x.login r ≡ false) rows
      → count is_login (insert_login x rows) ≡ suc (count is_login rows)
  unfolding insert_login count
  count-new [] u none = rw u
  count-new (r ∷ rs) u (more n h) =
      let k = count-new rs u h in
      insert-cases (λ l. count is_login l ≡ suc (count is_login (r ∷ rs))) x r rs
      (λ e. absurd (true≢false (sym (eq-eqb r.login x.login e) ∙ n))) (λ b. rw u (omega arith)) (λ v b. omega arith)

  count-named : {lo : ℕ} {rows : List Login} {r : Login} → RisingLogins lo rows → Memᴰ r rows → r.login ≡ x.login → is_login r ≡ true
      → count is_login (insert_login x rows) ≤ count is_login rows
  unfolding insert_login count
  count-named (unused h) m e u = absurd (true≢false (sym u ∙ all_in h m))
  count-named (row {r = q} {rs = qs} v l h) (Memᴰ.head s) e u =
      let one = count-length is_login (x ∷ []) in
      let same : q.login ≡ x.login = ap (λ (w : Login). w.login) (sym s) ∙ e in
      insert-cases (λ l. count is_login l ≤ count is_login (q ∷ qs)) x q qs (λ z. rw v (omega arith))
      (λ b. let k = b v in absurd (omega arith)) (λ w b. absurd (omega arith))
  count-named (row {r = q} {rs = qs} v l h) (Memᴰ.tail m) e u =
      let above = rising-above h m u in
      let k = count-named h m e u in
      insert-cases (λ l. count is_login l ≤ count is_login (q ∷ qs)) x q qs (λ z. absurd (omega arith))
      (λ b. let w = b v in absurd (omega arith)) (λ w b. omega arith)

  count-listed : {lo : ℕ} (rows : List Login) → RisingLogins lo rows → is_listed x.login rows ≡ true
      → count is_login (insert_login x rows) ≤ count is_login rows
  unfolding is_listed
  count-listed rows rising listed = let there = found-row x.login rows listed in count-named rising there.0 there.1 listed

-- ---- the rows without one login

-- a row behind those of lower logins has no name of theirs
unnamed : {login : ℕ} {rows : List Login} {q : Login} → RisingLogins (suc login) rows → login ≢ 0 → Memᴰ q rows → is_named login q ≡ false
unnamed {login} {rows} {q} h z m = ne_eqb q.login login (λ e. at (is_login q) refl e)
  where
    at : (b : Bool) → is_login q ≡ b → q.login ≡ login → ⊥
    at true u e = let k = rising-above h m u in omega arith
    at false u e = z (sym e ∙ eqb-true q.login 0 (not-false _ u))

is-used : (r : Login) → is_login r ≡ true → r.login ≢ 0
is-used r u e = true≢false (sym u ∙ ap not (eq-eqb r.login 0 e))

count-without : {lo : ℕ} {rows : List Login} {r : Login} → RisingLogins lo rows → Memᴰ r rows → is_login r ≡ true
    → suc (count is_login (keep (λ q. not (is_named r.login q)) rows)) ≡ count is_login rows
unfolding keep count
count-without (unused h) m u = absurd (true≢false (sym u ∙ all_in h m))
count-without {r = r} (row {r = q} {rs = qs} v l h) (Memᴰ.head s) u =
    let same : r.login ≡ q.login = ap (λ (w : Login). w.login) s in
    let all-kept = keep_all (λ y. not (is_named r.login y)) qs (λ y m. let off : is_named r.login y ≡ false = rw same (unnamed h (is-used q v) m) in ap not off) in
    rw (eq-eqb q.login r.login (sym same), all-kept, v) (omega arith)
count-without {r = r} (row {r = q} {rs = qs} v l h) (Memᴰ.tail m) u =
    let above = rising-above h m u in
    rw (ne_eqb q.login r.login (λ (e : q.login ≡ r.login). omega arith), v) (omega (arith, count-without h m u))

-- ---- a grant

module _ {Ok : Login → Type 0} (z : Ok no_login) (x : Login) (rows : List Login) (t : IsTable is_login (λ r. r.login) 1 login_rows Ok rows)
    (u : is_login x ≡ true) where
  abbrev left : List Login
  left = make_room x.login rows

  room : IsTable is_login (λ r. r.login) 1 login_rows Ok left
  room = table-room x.login t z

  -- There is a row for x: an unused one, or that of its name.
  has_room : (logins_full left ≡ false) ⊎ (is_listed x.login left ≡ true)
  unfolding make_room end_login
  has_room = at (logins_full rows) (is_listed x.login rows) refl refl
    where
      without : List Login
      without = end_login (earliest_row rows).login rows

      at : (a b : Bool) → logins_full rows ≡ a → is_listed x.login rows ≡ b
          → (logins_full (cond (a && not b) without rows) ≡ false) ⊎ (is_listed x.login (cond (a && not b) without rows) ≡ true)
      at true true f e = inr e
      at true false f e =
          let r = earliest_row rows in
          let fewer = keep-fewer (λ q. not (is_named r.login q)) (earliest-is-first rows f).listed (ap not (eq-eqb r.login r.login refl)) in
          let size = t.size in
          inl (ap is_login (fill-behind login_rows (login_rows - 1) no_login (keep (λ q. not (is_named r.login q)) rows) (omega arith)))
      at false b f e = inl f

  inserted : RisingLogins 1 (insert_login x left)
  inserted = let n = is-used x u in rising-insert x u (omega arith) room.rising

  count_fits : count is_login (insert_login x left) ≤ login_rows
  count_fits = by has_room
    where
      by : (logins_full left ≡ false) ⊎ (is_listed x.login left ≡ true) → count is_login (insert_login x left) ≤ login_rows
      by (inl f) =
          let size = room.size in
          let less = count_less is_login (at-index left (login_rows - 1) no_login (omega arith)) f in
          omega (arith, count-insert x left)
      by (inr e) =
          let size = room.size in
          let most = count-length is_login left in
          omega (arith, count-listed x left room.rising e)

  -- x is listed, and every row of another login stays but the one that is evicted.
  pub grant-has : Memᴰ x (grant_login x rows)
  unfolding grant_login add_login
  grant-has = rising-taken login_rows inserted count_fits u (has-insert x left)

  pub grant-stays : {r : Login} → Memᴰ r rows → is_login r ≡ true → r.login ≢ x.login
      → (needs_row x.login rows ≡ true → r ≢ earliest_row rows) → Memᴰ r (grant_login x rows)
  unfolding grant_login add_login make_room end_login
  grant-stays {r} m v n k = rising-taken login_rows inserted count_fits v (to-insert x (at (needs_row x.login rows) refl) n)
    where
      at : (b : Bool) → needs_row x.login rows ≡ b → Memᴰ r (cond b (end_login (earliest_row rows).login rows) rows)
      at true e =
          let first = (earliest-is-first rows ((and-eq-true_iff (logins_full rows) _).0 e).0).listed in
          to_fill login_rows no_login (to-keep _ m (ap not (ne_eqb r.login (earliest_row rows).login (λ same.
          let used : is_login (earliest_row rows) ≡ true = ap (λ (l : ℕ). not (eqb l 0)) (sym same) ∙ v in
          k e (rising-one t.rising m first v used same)))))
      at false e = m

  module _ (needed : needs_row x.login rows ≡ true) where
    full : logins_full rows ≡ true
    full = ((and-eq-true_iff (logins_full rows) _).0 needed).0

    -- The evicted row was used, as all are, and has another name than x.
    all-used : count is_login rows ≡ length rows
    all-used = rising-full rows (login_rows - 1) no_login t.size t.rising full

    pub evicted-used : is_login (earliest_row rows) ≡ true
    evicted-used = at (is_login (earliest_row rows)) refl
      where
        at : (b : Bool) → is_login (earliest_row rows) ≡ b → b ≡ true
        at true e = refl
        at false e = absurd (omega (arith, count_less is_login (earliest-is-first rows full).listed e, all-used))

    other_name : x.login ≢ (earliest_row rows).login
    other_name same =
        let unlisted = not-true _ ((and-eq-true_iff (logins_full rows) _).0 needed).1 in
        true≢false (sym (listed-row (earliest-is-first rows full).listed evicted-used) ∙ ap (λ (l : ℕ). is_listed l rows) (sym same) ∙ unlisted)

    -- It is gone, and the list is full again.
    pub grant-drops : is_listed (earliest_row rows).login (grant_login x rows) ≡ false
    unfolding grant_login make_room
    grant-drops = rw needed
        (unlisted-added (earliest_row rows).login x (end_login (earliest_row rows).login rows) (ne_eqb _ _ other_name)
        (unlisted-ended (earliest_row rows).login rows))

    pub grant-fills : count is_login (grant_login x rows) ≡ login_rows
    unfolding grant_login add_login make_room end_login
    grant-fills =
        let r = earliest_row rows in
        let unlisted = not-true _ ((and-eq-true_iff (logins_full rows) _).0 needed).1 in
        let none = others x.login (end_login r.login rows) (unlisted-end x.login r.login rows unlisted) (is-used x u) in
        let new : count is_login (insert_login x left) ≡ suc (count is_login (end_login r.login rows)) = rw needed (count-new x _ u none) in
        let kept = count-fill is_login login_rows no_login (keep (λ q. not (is_named r.login q)) rows) refl in
        let one = count-without t.rising (earliest-is-first rows full).listed evicted-used in
        let size = t.size in
        count-taken login_rows inserted count_fits ∙ omega (arith, all-used)
