-- Members of lists, and how many pass a test.
use mathlib.Core.Path.{◌≡◌, refl, sym, ap, ◌∙◌}
use mathlib.Core.Logic.{◌⊎◌, inl, inr}
use mathlib.Core.Bool.{Bool, true, false, cond, not, ◌&&◌, and-false, and-eq-true_iff, false≢true}
use mathlib.Core.List.Memᴰ
use mathlib.Core.List.{List, [], ◌∷◌, Memᴰ, map}
use Prim.Native.Nat.{ℕ, zero, suc, ◌+◌, ◌≤◌, ◌<◌}
use native.Mathlib.Omega.{arith}
use lib.Dec.{eqb}
use lib.ListN.{length, get_or, replicate, get_or-replicate}
use borrow.Author.Tests.{eqb-true, eq-eqb, ne_eqb, not-true}
use Rattle.lists.specs.Fold.{count_from, Distinct}
use Rattle.lists.specs.Table.{keep}
use Rattle.lists.proofs.Tests.{cond_cases}
use Rattle.lists.proofs.Every.{All, none, more}

-- ---- members

pub all_in : {A : Type 0} {P : A → Type 0} {x : A} {xs : List A} → All P xs → Memᴰ x xs → P x
all_in none m = elim m [ ]
all_in (more h t) (Memᴰ.head e) = rw e h
all_in (more h t) (Memᴰ.tail m) = all_in t m

pub all-members : {A : Type 0} {P : A → Type 0} (xs : List A) → ((x : A) → Memᴰ x xs → P x) → All P xs
all-members [] h = none
all-members (x ∷ xs) h = more (h x (Memᴰ.head refl)) (all-members xs (λ y m. h y (Memᴰ.tail m)))

module _ {A B : Type 0} (f : A → B) where
  pub to_map : {x : A} {xs : List A} → Memᴰ x xs → Memᴰ (f x) (map f xs)
  to_map (Memᴰ.head e) = Memᴰ.head (ap f e)
  to_map (Memᴰ.tail m) = Memᴰ.tail (to_map m)

  pub of_map : (P : B → Type 0) (xs : List A) → ((x : A) → Memᴰ x xs → P (f x)) → (y : B) → Memᴰ y (map f xs) → P y
  of_map P [] h y m = absurd (Memᴰ.not-nil m)
  of_map P (x ∷ xs) h y m = pick (of_map P xs (λ z k. h z (Memᴰ.tail k)) y) (Memᴰ.cases_cons m)
    where
      pick : (Memᴰ y (map f xs) → P y) → (y ≡ f x) ⊎ Memᴰ y (map f xs) → P y
      pick ih (inl e) = rw e (h x (Memᴰ.head refl))
      pick ih (inr k) = ih k

-- the members that are kept
module _ {A : Type 0} (p : A → Bool) where
  pub to-keep : {x : A} {xs : List A} → Memᴰ x xs → p x ≡ true → Memᴰ x (keep p xs)
  unfolding keep
  to-keep (Memᴰ.head e) h = rw (← e, h) (Memᴰ.head refl)
  to-keep {x} (Memᴰ.tail {x = y} {xs = ys} m) h =
      cond_cases (Memᴰ x) (p y) {x = y ∷ keep p ys} {y = keep p ys} (λ _. Memᴰ.tail (to-keep m h)) (λ _. to-keep m h)

  pub of-keep : {x : A} (xs : List A) → Memᴰ x (keep p xs) → Memᴰ x xs × (p x ≡ true)
  unfolding keep
  of-keep [] m = absurd (Memᴰ.not-nil m)
  of-keep {x} (y ∷ ys) m = at (p y) refl m (of-keep ys)
    where
      at : (b : Bool) → p y ≡ b → Memᴰ x (cond b (y ∷ keep p ys) (keep p ys)) → (Memᴰ x (keep p ys) → Memᴰ x ys × (p x ≡ true))
          → Memᴰ x (y ∷ ys) × (p x ≡ true)
      at true e k f = pick (Memᴰ.cases_cons k)
        where
          pick : (x ≡ y) ⊎ Memᴰ x (keep p ys) → Memᴰ x (y ∷ ys) × (p x ≡ true)
          pick (inl q) = (Memᴰ.head q, rw q e)
          pick (inr j) = (Memᴰ.tail (f j).0, (f j).1)
      at false e k f = (Memᴰ.tail (f k).0, (f k).1)

-- ---- counts

no_more : (b c : Bool) → cond (b && c) 1 0 ≤ cond c 1 0
no_more true c = omega arith
no_more false true = omega arith
no_more false false = omega arith

-- A test that passes wherever another does counts at least as many elements.
pub count-among : {A : Type 0} (p q : ℕ → A → Bool) → ((i : ℕ) (x : A) → p i x ≡ true → q i x ≡ true) → (i : ℕ) (xs : List A)
    → count_from p i xs ≤ count_from q i xs
unfolding count_from
count-among p q h i [] = omega arith
count-among p q h i (x ∷ xs) = omega (arith, one (p i x) (q i x) (h i x), count-among p q h (suc i) xs)
  where
    one : (a b : Bool) → (a ≡ true → b ≡ true) → cond a 1 0 ≤ cond b 1 0
    one false b f = omega arith
    one true b f = rw (f refl) (omega arith)

module _ {A : Type 0} where
  -- So no more elements pass two tests than one of them.
  pub fewer : (q p : ℕ → A → Bool) (i : ℕ) (xs : List A) → count_from (λ j x. q j x && p j x) i xs ≤ count_from p i xs
  fewer q p i xs = count-among (λ j x. q j x && p j x) p (λ j x e. ((and-eq-true_iff (q j x) (p j x)).0 e).1) i xs

  -- the test, but not at index v
  abbrev but : ℕ → (ℕ → A → Bool) → ℕ → A → Bool
  but v p j x = not (eqb j v) && p j x

  -- An index that passes counts for one. The value d for indices that the list does not have passes at none.
  one_less : (p : ℕ → A → Bool) (d : A) → ((j : ℕ) → p j d ≡ false) → (v i k : ℕ) → i + k ≡ v → (xs : List A) → p v (get_or xs k d) ≡ true
      → suc (count_from (but v p) i xs) ≤ count_from p i xs
  unfolding count_from
  one_less p d z v i k e [] h = absurd (false≢true (sym (z v) ∙ h))
  one_less p d z v i zero e (x ∷ xs) h =
      let s : i ≡ v = omega arith in
      rw (s, eq-eqb v v refl, h) (omega (arith, fewer (λ j x. not (eqb j v)) p (suc v) xs))
  one_less p d z v i (suc k) e (x ∷ xs) h = omega (arith, one_less p d z v (suc i) k (omega arith) xs h, no_more (not (eqb i v)) (p i x))

  -- At least as many elements pass as there are distinct indices that do.
  pub at_least : (p : ℕ → A → Bool) (d : A) → ((j : ℕ) → p j d ≡ false) → (xs : List A) (vs : List ℕ) → Distinct vs
      → ((v : ℕ) → Memᴰ v vs → p v (get_or xs v d) ≡ true) → length vs ≤ count_from p 0 xs
  at_least p d z xs [] s h = omega arith
  at_least p d z xs (v ∷ vs) s h =
      let others : (w : ℕ) → Memᴰ w vs → but v p w (get_or xs w d) ≡ true =
      λ w m. rw (ne_eqb w v (λ (e : w ≡ v). s.0 (rw (sym e) m)), h w (Memᴰ.tail m)) in
      let t = at_least (but v p) d (λ j. rw (z j) (and-false (not (eqb j v)))) xs vs s.1 others in
      omega (arith, one_less p d z v 0 v (omega arith) xs (h v (Memᴰ.head refl)))

  -- ---- at most

  -- past index v the test is the same
  same-past : (p : ℕ → A → Bool) (v i : ℕ) → v < i → (xs : List A) → count_from (but v p) i xs ≡ count_from p i xs
  unfolding count_from
  same-past p v i l [] = refl
  same-past p v i l (x ∷ xs) = rw (ne_eqb i v (λ e. omega arith), same-past p v (suc i) (omega arith) xs)

  one_more : (p : ℕ → A → Bool) (v i : ℕ) (xs : List A) → count_from p i xs ≤ suc (count_from (but v p) i xs)
  unfolding count_from
  one_more p v i [] = omega arith
  one_more p v i (x ∷ xs) = at (eqb i v) refl (one_more p v (suc i) xs)
    where
      one : (b : Bool) → cond b 1 0 ≤ 1
      one true = omega arith
      one false = omega arith

      at : (b : Bool) → eqb i v ≡ b → count_from p (suc i) xs ≤ suc (count_from (but v p) (suc i) xs)
          → cond (p i x) 1 0 + count_from p (suc i) xs ≤ suc (cond (but v p i x) 1 0 + count_from (but v p) (suc i) xs)
      at true e h =
          let s = eqb-true i v e in
          let same = same-past p v (suc i) (omega arith) xs in
          rw (e, same) (omega (arith, one (p i x)))
      at false e h = rw e (omega arith)

  none_pass : (p : ℕ → A → Bool) (d : A) (i : ℕ) (xs : List A) → ((k : ℕ) → p (i + k) (get_or xs k d) ≡ false) → count_from p i xs ≡ 0
  unfolding count_from
  none_pass p d i [] h = refl
  none_pass p d i (x ∷ xs) h =
      let z : i + 0 ≡ i = omega arith in
      let f : p i x ≡ false = rw z at (h 0) in
      rw (f, none_pass p d (suc i) xs (λ k. (let e : suc i + k ≡ i + suc k = omega arith in rw e (h (suc k)))))

  -- No more elements pass than there are numbers in a list that has the index of each that does.
  pub at_most : (p : ℕ → A → Bool) (d : A) (xs : List A) (vs : List ℕ) → ((k : ℕ) → p k (get_or xs k d) ≡ true → Memᴰ k vs)
      → count_from p 0 xs ≤ length vs
  at_most p d xs [] h = omega (arith, none_pass p d 0 xs (λ k. (let e : 0 + k ≡ k = omega arith in rw e (at k (p k (get_or xs k d)) refl))))
    where
      at : (k : ℕ) (b : Bool) → p k (get_or xs k d) ≡ b → p k (get_or xs k d) ≡ false
      at k true e = absurd (Memᴰ.not-nil (h k e))
      at k false e = e
  at_most p d xs (v ∷ vs) h = omega (arith, one_more p v 0 xs, at_most (but v p) d xs vs others)
    where
      others : (k : ℕ) → but v p k (get_or xs k d) ≡ true → Memᴰ k vs
      others k e = pick (Memᴰ.cases_cons (h k t.1))
        where
          t : (not (eqb k v) ≡ true) × (p k (get_or xs k d) ≡ true)
          t = (and-eq-true_iff (not (eqb k v)) (p k (get_or xs k d))).0 e

          pick : (k ≡ v) ⊎ Memᴰ k vs → Memᴰ k vs
          pick (inl s) = absurd (false≢true (sym (not-true _ t.0) ∙ eq-eqb k v s))
          pick (inr m) = m

all_pass : (n i : ℕ) → count_from (λ j x. x) i (replicate n true) ≡ n
unfolding count_from
all_pass zero i = refl
all_pass (suc n) i = rw (all_pass n (suc i)) (omega arith)

-- Distinct numbers below n are at most n.
pub below : (n : ℕ) (vs : List ℕ) → Distinct vs → ((v : ℕ) → Memᴰ v vs → v < n) → length vs ≤ n
below n vs s h = rw (all_pass n 0) at (at_least (λ j x. x) false (λ j. refl) (replicate n true) vs s (λ v m. get_or-replicate n v true false (h v m)))
