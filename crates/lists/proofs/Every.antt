-- Lists whose elements all have a property, and what the list operations keep of it.
use mathlib.Core.Path.{◌≡◌, refl, ap}
use mathlib.Core.Bool.{Bool, true, false, ◌||◌, and-eq-true_iff, or-true, false≢true}
use mathlib.Core.List.{List, [], ◌∷◌, ◌++◌, Memᴰ, map}
use Prim.Native.Nat.{ℕ, zero, suc, ◌-◌}
use lib.ListN.{length, get_or, take, set, replicate}
use Rattle.lists.specs.Fold.{any, all}
use Rattle.lists.specs.Table.{keep, fill, replace_first}
use Rattle.lists.proofs.Tests.{cond_cases, or-false-of}

pub data All {A : Type 0} (P : A → Type 0) : List A → Type 0 where
  none : All P []
  more : {x : A} {xs : List A} → P x → All P xs → All P (x ∷ xs)

module _ {A : Type 0} (p : A → Bool) where
  -- `all` and `any` as properties of the elements
  pub all_of : (xs : List A) → all p xs ≡ true → All (λ x. p x ≡ true) xs
  unfolding all
  all_of [] e = none
  all_of (x ∷ xs) e = let h = (and-eq-true_iff (p x) (all p xs)).0 e in more h.0 (all_of xs h.1)

  pub all-to : {xs : List A} → All (λ x. p x ≡ true) xs → all p xs ≡ true
  unfolding all
  all-to none = refl
  all-to (more {x = x} {xs = xs} h t) = (and-eq-true_iff (p x) (all p xs)).1 (h, all-to t)

  pub none_of : (xs : List A) → any p xs ≡ false → All (λ x. p x ≡ false) xs
  unfolding any
  none_of [] e = none
  none_of (x ∷ xs) e = let h = or-false-of (p x) (any p xs) e in more h.0 (none_of xs h.1)

  pub none-to : {xs : List A} → All (λ x. p x ≡ false) xs → any p xs ≡ false
  unfolding any
  none-to none = refl
  none-to (more h t) = rw h (none-to t)

  -- some element passes
  pub any_of : (xs : List A) → any p xs ≡ true → (x : A) × Memᴰ x xs × (p x ≡ true)
  unfolding any
  any_of [] e = absurd (false≢true e)
  any_of (x ∷ xs) e = at (p x) refl e (any_of xs)
    where
      at : (b : Bool) → p x ≡ b → (b || any p xs) ≡ true → (any p xs ≡ true → (y : A) × Memᴰ y xs × (p y ≡ true)) → (y : A) × Memᴰ y
          (x ∷ xs) × (p y ≡ true)
      at true h t f = (x, Memᴰ.head refl, h)
      at false h t f = let m = f t in (m.0, Memᴰ.tail m.1, m.2)

  pub any-to : {x : A} {xs : List A} → Memᴰ x xs → p x ≡ true → any p xs ≡ true
  unfolding any
  any-to (Memᴰ.head e) h = rw (← e, h)
  any-to (Memᴰ.tail {x = y} m) h = rw (any-to m h) (or-true (p y))

  -- Every row that is kept passes the test.
  pub keep-passes : (xs : List A) → All (λ x. p x ≡ true) (keep p xs)
  unfolding keep
  keep-passes [] = none
  keep-passes (x ∷ xs) = cond_cases (All (λ x. p x ≡ true)) (p x) (λ h. more h (keep-passes xs)) (λ h. keep-passes xs)

-- A property that follows from another.
pub all_map : {A : Type 0} {P Q : A → Type 0} {xs : List A} → ((x : A) → P x → Q x) → All P xs → All Q xs
all_map f none = none
all_map f (more {x = x} h t) = more (f x h) (all_map f t)

-- A property of each element that a function makes.
pub all-mapped : {A B : Type 0} (P : B → Type 0) (f : A → B) {xs : List A} → All (λ x. P (f x)) xs → All P (map f xs)
all-mapped P f none = none
all-mapped P f (more h t) = more h (all-mapped P f t)

-- Two properties at once.
pub all_both : {A : Type 0} {P Q : A → Type 0} {xs : List A} → All P xs → All Q xs → All (λ x. P x × Q x) xs
all_both none none = none
all_both (more g s) (more h t) = more (g, h) (all_both s t)

-- What each operation on a list keeps of a property, if a new element has it.
module _ {A : Type 0} {P : A → Type 0} where
  pub all_keep : {xs : List A} (p : A → Bool) → All P xs → All P (keep p xs)
  unfolding keep
  all_keep p none = none
  all_keep p (more {x = x} h t) = cond_cases (All P) (p x) (λ e. more h (all_keep p t)) (λ e. all_keep p t)

  pub all-append-same : {xs : List A} {u : A} (n : ℕ) → All P xs → P u → All P (xs ++ replicate n u)
  all-append-same zero none h = none
  all-append-same (suc n) none h = more h (all-append-same n none h)
  all-append-same n (more g t) h = more g (all-append-same n t h)

  pub all-fill : {xs : List A} {u : A} (n : ℕ) → All P xs → P u → All P (fill n u xs)
  unfolding fill
  all-fill {xs} n t h = all-append-same (n - length xs) t h

  pub all_take : {xs : List A} (n : ℕ) → All P xs → All P (take n xs)
  all_take zero h = none
  all_take (suc n) none = none
  all_take (suc n) (more {x = x} {xs = xs} h t) = more h (all_take {xs = xs} n t)

  pub all_set : {xs : List A} {y : A} (i : ℕ) → All P xs → P y → All P (set xs i y)
  all_set i none h = none
  all_set zero (more g t) h = more h t
  all_set (suc i) (more g t) h = more g (all_set i t h)

  pub all-replace_first : {xs : List A} {y : A} (p : A → Bool) → All P xs → P y → All P (replace_first p y xs)
  unfolding replace_first
  all-replace_first p none h = none
  all-replace_first p (more {x = x} g t) h = cond_cases (All P) (p x) (λ e. more h t) (λ e. more g (all-replace_first p t h))

  -- An element at any index, where the value for indices that the list does not have has the property too.
  pub all_get_d : {xs : List A} {d : A} (i : ℕ) → All P xs → P d → P (get_or xs i d)
  all_get_d i none h = h
  all_get_d zero (more g t) h = g
  all_get_d (suc i) (more g t) h = all_get_d i t h

-- What holds of the element at an index still holds after an element was set, if it holds of the new one where that has this index.
pub set_keeps : {A : Type 0} (P : A → Type 0) (xs : List A) (i j : ℕ) (y d : A) → (i ≡ j → P y) → P (get_or xs i d) → P (get_or (set xs j y) i d)
set_keeps P [] i j y d f h = h
set_keeps P (x ∷ xs) zero zero y d f h = f refl
set_keeps P (x ∷ xs) zero (suc j) y d f h = h
set_keeps P (x ∷ xs) (suc i) zero y d f h = h
set_keeps P (x ∷ xs) (suc i) (suc j) y d f h = set_keeps P xs i j y d (λ e. f (ap suc e)) h
