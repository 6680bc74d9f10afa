-- The members of a table: which are left after a change, and how they follow one another in a rising table.
use mathlib.Core.Path.{◌≡◌, refl, sym, ap, ◌∙◌}
use mathlib.Core.Logic.{◌⊎◌, inl, inr}
use mathlib.Core.Bool.{Bool, true, false, cond, true≢false}
use mathlib.Core.List.Memᴰ
use mathlib.Core.List.{List, [], ◌∷◌, ◌++◌, Memᴰ}
use Prim.Native.Nat.{ℕ, zero, suc, ◌-◌, ◌≤◌, ◌<◌}
use native.Mathlib.Omega.{arith}
use lib.ListN.{length, get_or, replicate}
use Rattle.lists.specs.Fold.{first}
use Rattle.lists.specs.Table.{keep, fill, replace_first}
use Rattle.lists.proofs.Tests.{cond_cases}
use Rattle.lists.proofs.Members.{all_in}
use Rattle.lists.proofs.Tables.{Rising, unused, row, length-keep}

-- ---- after a change

module _ {A : Type 0} where
  -- A row that took the place of another is listed, and so are only rows that were.
  pub of-replace : (p : A → Bool) (x : A) {y : A} (xs : List A) → Memᴰ y (replace_first p x xs) → (y ≡ x) ⊎ Memᴰ y xs
  unfolding replace_first
  of-replace p x [] m = inr m
  of-replace p x {y} (z ∷ xs) m = at (p z) m (of-replace p x xs)
    where
      after : (y ≡ x) ⊎ Memᴰ y xs → (y ≡ x) ⊎ Memᴰ y (z ∷ xs)
      after (inl e) = inl e
      after (inr k) = inr (Memᴰ.tail k)

      pick : (Memᴰ y (replace_first p x xs) → (y ≡ x) ⊎ Memᴰ y xs) → (y ≡ z) ⊎ Memᴰ y (replace_first p x xs)
          → (y ≡ x) ⊎ Memᴰ y (z ∷ xs)
      pick ih (inl e) = inr (Memᴰ.head e)
      pick ih (inr k) = after (ih k)

      at : (b : Bool) → Memᴰ y (cond b (x ∷ xs) (z ∷ replace_first p x xs)) → (Memᴰ y (replace_first p x xs) → (y ≡ x) ⊎ Memᴰ y xs)
          → (y ≡ x) ⊎ Memᴰ y (z ∷ xs)
      at true m ih = after (Memᴰ.cases_cons m)
      at false m ih = pick ih (Memᴰ.cases_cons m)

  pub to-replace : (p : A → Bool) (x : A) {y : A} {xs : List A} → Memᴰ y xs → p y ≡ true → Memᴰ x (replace_first p x xs)
  unfolding replace_first
  to-replace p x (Memᴰ.head e) h = rw (← e, h) (Memᴰ.head refl)
  to-replace p x (Memᴰ.tail {x = z} {xs = zs} m) h =
      cond_cases (Memᴰ x) (p z) {x = x ∷ zs} {y = z ∷ replace_first p x zs} (λ _. Memᴰ.head refl) (λ _. Memᴰ.tail (to-replace p x m h))

  -- Unused rows are added behind the others.
  of-same : (n : ℕ) {y : A} (u : A) → Memᴰ y (replicate n u) → y ≡ u
  of-same zero u m = absurd (Memᴰ.not-nil m)
  of-same (suc n) {y} u m = at (Memᴰ.cases_cons m) (of-same n u)
    where
      at : (y ≡ u) ⊎ Memᴰ y (replicate n u) → (Memᴰ y (replicate n u) → y ≡ u) → y ≡ u
      at (inl e) ih = e
      at (inr k) ih = ih k

  of-append-same : (n : ℕ) {y : A} (u : A) (xs : List A) → Memᴰ y (xs ++ replicate n u) → Memᴰ y xs ⊎ (y ≡ u)
  of-append-same n u [] m = inr (of-same n u m)
  of-append-same n {y} u (z ∷ xs) m = at (Memᴰ.cases_cons m) (of-append-same n u xs)
    where
      after : Memᴰ y xs ⊎ (y ≡ u) → Memᴰ y (z ∷ xs) ⊎ (y ≡ u)
      after (inl k) = inl (Memᴰ.tail k)
      after (inr e) = inr e

      at : (y ≡ z) ⊎ Memᴰ y (xs ++ replicate n u) → (Memᴰ y (xs ++ replicate n u) → Memᴰ y xs ⊎ (y ≡ u))
          → Memᴰ y (z ∷ xs) ⊎ (y ≡ u)
      at (inl e) ih = inl (Memᴰ.head e)
      at (inr k) ih = after (ih k)

  pub of-fill : (n : ℕ) {y : A} (u : A) (xs : List A) → Memᴰ y (fill n u xs) → Memᴰ y xs ⊎ (y ≡ u)
  unfolding fill
  of-fill n u xs m = of-append-same (n - length xs) u xs m

  before-others : {y : A} {xs : List A} (ys : List A) → Memᴰ y xs → Memᴰ y (xs ++ ys)
  before-others ys (Memᴰ.head e) = Memᴰ.head e
  before-others ys (Memᴰ.tail m) = Memᴰ.tail (before-others ys m)

  pub to_fill : (n : ℕ) {y : A} (u : A) {xs : List A} → Memᴰ y xs → Memᴰ y (fill n u xs)
  unfolding fill
  to_fill n u {xs} m = before-others (replicate (n - length xs) u) m

  -- Where every row passes the test, all are kept; where one fails, they are fewer.
  pub keep_all : (p : A → Bool) (xs : List A) → ((x : A) → Memᴰ x xs → p x ≡ true) → keep p xs ≡ xs
  unfolding keep
  keep_all p [] h = refl
  keep_all p (x ∷ xs) h = rw (h x (Memᴰ.head refl)) (ap (λ (l : List A). x ∷ l) (keep_all p xs (λ y m. h y (Memᴰ.tail m))))

  pub keep-fewer : (p : A → Bool) {x : A} {xs : List A} → Memᴰ x xs → p x ≡ false → length (keep p xs) < length xs
  unfolding keep
  keep-fewer p (Memᴰ.head {xs = xs} e) h = rw (← e, h) (omega (arith, length-keep p xs))
  keep-fewer p (Memᴰ.tail {x = z} {xs = zs} m) h =
      let k = keep-fewer p m h in
      cond_cases (λ (l : List A). length l < suc (length zs)) (p z) {x = z ∷ keep p zs} {y = keep p zs} (λ _. omega arith) (λ _. omega arith)

  -- A row at an index that the table has is a member; at an index behind the used rows it is unused.
  pub at-index : (xs : List A) (i : ℕ) (u : A) → i < length xs → Memᴰ (get_or xs i u) xs
  at-index [] i u h = absurd (omega arith)
  at-index (x ∷ xs) zero u h = Memᴰ.head refl
  at-index (x ∷ xs) (suc i) u h = Memᴰ.tail (at-index xs i u (omega arith))

  same_at : (n i : ℕ) (u : A) → get_or (replicate n u) i u ≡ u
  same_at zero i u = refl
  same_at (suc n) zero u = refl
  same_at (suc n) (suc i) u = same_at n i u

  behind : (n i : ℕ) (u : A) (xs : List A) → length xs ≤ i → get_or (xs ++ replicate n u) i u ≡ u
  behind n i u [] h = same_at n i u
  behind n zero u (x ∷ xs) h = absurd (omega arith)
  behind n (suc i) u (x ∷ xs) h = behind n i u xs (omega arith)

  pub fill-behind : (n i : ℕ) (u : A) (xs : List A) → length xs ≤ i → get_or (fill n u xs) i u ≡ u
  unfolding fill
  fill-behind n i u xs h = behind (n - length xs) i u xs h

-- ---- in a rising table

module _ {A : Type 0} {used : A → Bool} {key : A → ℕ} where
  -- No used row is below the bound.
  pub rising-above : {lo : ℕ} {rows : List A} {r : A} → Rising used key lo rows → Memᴰ r rows → used r ≡ true → lo ≤ key r
  rising-above (unused h) m u = absurd (true≢false (sym u ∙ all_in h m))
  rising-above (row v l h) (Memᴰ.head e) u = rw e l
  rising-above (row v l h) (Memᴰ.tail m) u = let k = rising-above h m u in omega arith

  -- No two used rows have the same key.
  pub rising-one : {lo : ℕ} {rows : List A} {r s : A} → Rising used key lo rows → Memᴰ r rows → Memᴰ s rows
      → used r ≡ true → used s ≡ true → key r ≡ key s → r ≡ s
  rising-one (unused h) m k u v e = absurd (true≢false (sym u ∙ all_in h m))
  rising-one (row w l h) (Memᴰ.head a) (Memᴰ.head b) u v e = a ∙ sym b
  rising-one (row w l h) (Memᴰ.head a) (Memᴰ.tail k) u v e =
      let b = rising-above h k v in absurd (omega (arith, ap key a))
  rising-one (row w l h) (Memᴰ.tail m) (Memᴰ.head b) u v e =
      let a = rising-above h m u in absurd (omega (arith, ap key b))
  rising-one (row w l h) (Memᴰ.tail m) (Memᴰ.tail k) u v e = rising-one h m k u v e

  -- The first row that passes a test has the lowest key of the used rows that do.
  pub first-lowest : {lo : ℕ} {rows : List A} {r : A} (p : A → Bool) (d : A) → Rising used key lo rows → Memᴰ r rows
      → used r ≡ true → p r ≡ true → key (first p d rows) ≤ key r
  unfolding first
  first-lowest p d (unused h) m u e = absurd (true≢false (sym u ∙ all_in h m))
  first-lowest p d (row w l h) (Memᴰ.head a) u e = rw (← a, e) (omega arith)
  first-lowest {r = r} p d (row {r = x} w l h) (Memᴰ.tail m) u e =
      let above = rising-above h m u in
      cond_cases (λ (z : A). key z ≤ key r) (p x) (λ _. omega arith) (λ _. first-lowest p d h m u e)
