-- Folds over a list of any element type.
use Rattle.std.specs.Prelude.{ℕ, suc, ◌+◌, Bool, true, false, cond, ◌&&◌, ◌||◌}
use mathlib.Core.List.{List, [], ◌∷◌, Memᴰ}

-- some element passes the test
unfoldable pub any : {A : Type 0} → (A → Bool) → List A → Bool
any p [] = false
any p (x ∷ xs) = p x || any p xs

-- every element passes the test
unfoldable pub all : {A : Type 0} → (A → Bool) → List A → Bool
all p [] = true
all p (x ∷ xs) = p x && all p xs

-- the number of elements that pass the test
unfoldable pub count : {A : Type 0} → (A → Bool) → List A → ℕ
count p [] = 0
count p (x ∷ xs) = cond (p x) 1 0 + count p xs

-- the number of elements that pass a test which is told each element's index, that of the first being i
unfoldable pub count_from : {A : Type 0} → (ℕ → A → Bool) → ℕ → List A → ℕ
count_from p i [] = 0
count_from p i (x ∷ xs) = cond (p i x) 1 0 + count_from p (suc i) xs

-- the first element that passes the test, or d where none does
unfoldable pub first : {A : Type 0} → (A → Bool) → A → List A → A
first p d [] = d
first p d (x ∷ xs) = cond (p x) x (first p d xs)

-- of x and the elements of the list the one that no other comes before, the first of several
unfoldable pub least : {A : Type 0} → (A → A → Bool) → A → List A → A
least before x [] = x
least before x (y ∷ ys) = least before (cond (before y x) y x) ys

-- no number occurs twice
abbrev pub Distinct : List ℕ → Type 0
Distinct [] = Unit {0}
Distinct (i ∷ is) = (¬ Memᴰ i is) × Distinct is
