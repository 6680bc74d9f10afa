-- Words of the code's contracts: what its loops over a table find and make. Nothing of the paper.
use Rattle.std.specs.Prelude.{ℕ, suc, List, [], ◌∷◌, ◌++◌, Bool, cond, not, ◌&&◌, leb, length, take, drop}

-- a used row that passes the test of a used row, and an unused one that passes the test of an unused one
abbrev pub is_filled : {A : Type 0} → (A → Bool) → (A → Bool) → A → Bool
is_filled used fine r = used r && fine r

abbrev pub is_spare : {A : Type 0} → (A → Bool) → (A → Bool) → A → Bool
is_spare used blank r = not (used r) && blank r

-- the number of rows at the front that pass the test, with strictly rising keys of at least lo
unfoldable pub leading : {A : Type 0} → (A → Bool) → (A → ℕ) → ℕ → List A → ℕ
leading p key lo [] = 0
leading p key lo (r ∷ rs) = cond (leb lo (key r) && p r) (suc (leading p key (suc (key r)) rs)) 0

-- the number of rows before the first that passes the test
unfoldable pub index_of : {A : Type 0} → (A → Bool) → List A → ℕ
index_of p [] = 0
index_of p (r ∷ rs) = cond (p r) 0 (suc (index_of p rs))

-- x before row i, in as many rows as there were
unfoldable pub insert_at : {A : Type 0} → ℕ → A → List A → List A
insert_at i x rows = take (length rows) (take i rows ++ (x ∷ drop i rows))
