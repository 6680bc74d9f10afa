-- The folds of this crate are the library's, in which the clauses of iterators and slices speak.
use mathlib.Core.Path.{◌≡◌, refl, sym, ap, ◌∙◌}
use mathlib.Core.Bool.{Bool, true, false, cond, not}
use mathlib.Core.List.{List, [], ◌∷◌}
use Prim.Native.Nat.{ℕ, suc, ◌+◌, ◌<◌, ◌≤◌}
use native.Mathlib.Omega.{arith}
use native.Mathlib.Numerals.{add-one}
use lib.ListN.{length, get_or, set, drop}
use lib.Dec.{ltb}
use borrow.Author.Tests.{ltb-true, ltb-false, lt-ltb, le-ltb}
use lib.Seq.{drop-cons}
use Rattle.std.specs.Int.{from_bool}
use Rattle.std.specs.Prelude.{position, Option, Some, None}
use Rattle.std.specs.List.{position_or_len}
use Rattle.lists.specs.Fold.{count}
use Rattle.lists.specs.Table.{replace_first}
use Rattle.lists.specs.Code.{index_of}

module _ {A : Type 0} (p : A → Bool) where
  pub index-is : (xs : List A) → index_of p xs ≡ position_or_len p xs
  unfolding index_of
  index-is [] = refl
  index-is (x ∷ xs) = at (p x) (index-is xs)
    where
      at : (b : Bool) → index_of p xs ≡ position_or_len p xs → cond b 0 (suc (index_of p xs)) ≡ cond (not b) (1 + position_or_len p xs) 0
      at true h = refl
      at false h = omega arith

-- a flag as a number
pub flag-number : (b : Bool) → from_bool b ≡ cond b 1 0
flag-number true = refl
flag-number false = refl

pub flag-small : (b : Bool) → from_bool b ≤ 1
flag-small true = omega arith
flag-small false = omega arith

-- one turn of a loop that adds a flag for each element
pub flag-counted : {A : Type 0} (p : A → Bool) (d : A) (xs : List A) (i n : ℕ) → i < length xs → n ≡ from_bool (p (get_or xs i d))
    → count p (drop i xs) ≡ n + count p (drop (i + 1) xs)
unfolding count
flag-counted p d xs i n h e = rw (add-one, drop-cons xs i d h, e, flag-number (p (get_or xs i d)))

-- where the library finds the first row that passes, and where it finds none
module _ {A : Type 0} (p : A → Bool) (l : List A) where
  pub place-some : (i : ℕ) → position p l ≡ Some i → (i ≡ index_of p l) × (i < length l)
  place-some i e = at (ltb (position_or_len p l) (length l)) refl e
    where
      at : (b : Bool) → ltb (position_or_len p l) (length l) ≡ b → cond b (Some (position_or_len p l)) None ≡ Some i → (i ≡ index_of p l) × (i < length l)
      at true h k =
          let same : position_or_len p l ≡ i = cc in
          let inside = ltb-true _ _ h in
          (sym (index-is p l ∙ same), omega arith)
      at false h k = cc

  pub place-none : position p l ≡ None → length l ≤ index_of p l
  place-none e = at (ltb (position_or_len p l) (length l)) refl e
    where
      at : (b : Bool) → ltb (position_or_len p l) (length l) ≡ b → cond {A = Option ℕ} b (Some (position_or_len p l)) None ≡ None → length l ≤ index_of p l
      at true h k = cc
      at false h k = let past = ltb-false _ _ h in omega (arith, index-is p l)

  -- and the way back
  pub some-place : (i : ℕ) → index_of p l ≡ i → i < length l → position p l ≡ Some i
  some-place i e h =
      let same : position_or_len p l ≡ i = sym (index-is p l) ∙ e in
      rw (same, lt-ltb i (length l) h)

  pub none-place : index_of p l ≡ length l → position p l ≡ None
  none-place e =
      let same : position_or_len p l ≡ length l = sym (index-is p l) ∙ e in
      rw (same, le-ltb (length l) (length l) (omega arith))

-- the first row that passes replaced, at its place
module _ {A : Type 0} (p : A → Bool) (x : A) where
  replace-inside : (l : List A) → index_of p l < length l → set l (index_of p l) x ≡ replace_first p x l
  unfolding index_of replace_first
  replace-inside [] h = absurd (omega arith)
  replace-inside (r ∷ rs) h = at (p r) h (replace-inside rs)
    where
      at : (b : Bool) → cond b 0 (suc (index_of p rs)) < suc (length rs) → (index_of p rs < length rs → set rs (index_of p rs) x ≡ replace_first p x rs)
          → set (r ∷ rs) (cond b 0 (suc (index_of p rs))) x ≡ cond b (x ∷ rs) (r ∷ replace_first p x rs)
      at true h f = refl
      at false h f = ap (λ (t : List A). r ∷ t) (f (omega arith))

  replace-past : (l : List A) → length l ≤ index_of p l → l ≡ replace_first p x l
  unfolding index_of replace_first
  replace-past [] h = refl
  replace-past (r ∷ rs) h = at (p r) h (replace-past rs)
    where
      at : (b : Bool) → suc (length rs) ≤ cond b 0 (suc (index_of p rs)) → (length rs ≤ index_of p rs → rs ≡ replace_first p x rs)
          → (r ∷ rs) ≡ cond b (x ∷ rs) (r ∷ replace_first p x rs)
      at true h f = absurd (omega arith)
      at false h f = ap (λ (t : List A). r ∷ t) (f (omega arith))

  pub replace-some : (l : List A) (i : ℕ) → position p l ≡ Some i → set l i x ≡ replace_first p x l
  replace-some l i e = let at = place-some p l i e in rw at.0 (replace-inside l (omega (arith, at.0, at.1)))

  pub replace-none : (l : List A) → position p l ≡ None → l ≡ replace_first p x l
  replace-none l e = replace-past l (place-none p l e)
