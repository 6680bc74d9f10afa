-- Tables: lists of a fixed number of rows, the used ones first. A row is told to be used by a test, and an unused row is one value.
use Rattle.std.specs.Prelude.{ℕ, suc, ◌-◌, List, [], ◌∷◌, ◌++◌, Bool, true, cond, not, ◌&&◌, leb, length, replicate}
use Rattle.lists.specs.Fold.{any}

-- the used rows come first, with strictly rising keys of at least lo, and every row after them is unused
unfoldable pub rising_from : {A : Type 0} → (A → Bool) → (A → ℕ) → ℕ → List A → Bool
rising_from used key lo [] = true
rising_from used key lo (r ∷ rs) = cond (used r) (leb lo (key r) && rising_from used key (suc (key r)) rs) (not (any used rs))

-- the rows that pass the test, in order
unfoldable pub keep : {A : Type 0} → (A → Bool) → List A → List A
keep p [] = []
keep p (r ∷ rs) = cond (p r) (r ∷ keep p rs) (keep p rs)

-- the rows, and then unused ones until there are n
unfoldable pub fill : {A : Type 0} → ℕ → A → List A → List A
fill n unused rows = rows ++ replicate (n - length rows) unused

-- x in the place of the first row that passes the test
unfoldable pub replace_first : {A : Type 0} → (A → Bool) → A → List A → List A
replace_first p x [] = []
replace_first p x (r ∷ rs) = cond (p r) (x ∷ rs) (r ∷ replace_first p x rs)
