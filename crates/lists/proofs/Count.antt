-- Laws of counts.
use mathlib.Core.Path.{◌≡◌, refl}
use mathlib.Core.Bool.{Bool, true, false, cond}
use mathlib.Core.List.{List, [], ◌∷◌}
use Prim.Native.Nat.{ℕ, zero, suc, ◌+◌, ◌≤◌, ◌<◌}
use native.Mathlib.Omega.{arith}
use lib.ListN.{length, get_or, set}
use Rattle.lists.specs.Fold.{count}
use Rattle.lists.specs.Table.{keep}

module _ {A : Type 0} (p : A → Bool) where
  -- No more elements are counted than there are.
  pub count-length : (xs : List A) → count p xs ≤ length xs
  unfolding count
  count-length [] = omega arith
  count-length (x ∷ xs) = let h = count-length xs in one (p x) h
    where
      one : (b : Bool) → count p xs ≤ length xs → cond b 1 0 + count p xs ≤ suc (length xs)
      one true h = omega arith
      one false h = omega arith

  -- The elements that pass are as many as are kept.
  pub length-kept : (xs : List A) → length (keep p xs) ≡ count p xs
  unfolding keep count
  length-kept [] = refl
  length-kept (x ∷ xs) = one (p x) (length-kept xs)
    where
      one : (b : Bool) → length (keep p xs) ≡ count p xs → length (cond b (x ∷ keep p xs) (keep p xs)) ≡ cond b 1 0 + count p xs
      one true h = omega arith
      one false h = omega arith

  -- What a count is after one element was set to another.
  pub count_set : (xs : List A) (i : ℕ) (y d : A) → i < length xs → count p (set xs i y) + cond (p (get_or xs i d)) 1 0 ≡ count p xs + cond (p y) 1 0
  unfolding count
  count_set [] i y d h = absurd (omega arith)
  count_set (x ∷ xs) zero y d h = omega arith
  count_set (x ∷ xs) (suc i) y d h = let t = count_set xs i y d (omega arith) in omega arith
