-- Sums that rise from index to index, as the days before each month and before each year do.
use Prim.Native.Nat.{ℕ, zero, suc, ◌+◌, ◌-◌, ◌≤◌, ◌<◌}
use native.Mathlib.Nat.{add-zero, add-suc, le_refl}
use native.Mathlib.Omega.{arith}
use mathlib.Core.Path.{◌≡◌, refl}
use mathlib.Core.Bool.{Bool, true, false}
use lib.Dec.{leb}
use borrow.Author.Tests.{leb-true, leb-false}

module _ (f : ℕ → ℕ) (up : (n : ℕ) → f n ≤ f (suc n)) where
  rises_by : (a j : ℕ) → f a ≤ f (a + j)
  rises_by a zero = rw add-zero (le_refl _)
  rises_by a (suc j) = rw add-suc (omega (arith, rises_by a j, up (a + j)))

  pub rises : (a b : ℕ) → a ≤ b → f a ≤ f b
  rises a b h = let e : a + (b - a) ≡ b = omega arith in rw e at (rises_by a (b - a))

  -- x lies before the end of b, and so does the start of a
  pub not-past : (a b x : ℕ) → f a ≤ x → x < f (suc b) → a ≤ b
  not-past a b x h k = at (leb a b) refl
    where
      at : (t : Bool) → leb a b ≡ t → a ≤ b
      at true e = leb-true a b e
      at false e = let r = rises (suc b) a (leb-false a b e) in absurd (omega arith)
