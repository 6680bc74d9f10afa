-- Laws of the test whether two lists of bytes are the same.
use mathlib.Core.Path.{◌≡◌, refl}
use mathlib.Core.Bool.{true, and-eq-true_iff, false≢true}
use mathlib.Core.List.{List, [], ◌∷◌}
use Prim.Native.Nat.{ℕ}
use lib.Dec.{eqb}
use borrow.Author.Tests.{eqb-true, eq-eqb}
use Rattle.binary.specs.Number.{is_same_bytes}

pub same_bytes : (b : List ℕ) → is_same_bytes b b ≡ true
unfolding is_same_bytes
same_bytes [] = refl
same_bytes (x ∷ xs) = rw (eq-eqb x x refl) (same_bytes xs)

pub bytes_same : (a b : List ℕ) → is_same_bytes a b ≡ true → a ≡ b
unfolding is_same_bytes
bytes_same [] [] e = refl
bytes_same [] (y ∷ ys) e = absurd (false≢true e)
bytes_same (x ∷ xs) [] e = absurd (false≢true e)
bytes_same (x ∷ xs) (y ∷ ys) e = let t = (and-eq-true_iff (eqb x y) (is_same_bytes xs ys)).0 e in rw (eqb-true x y t.0, bytes_same xs ys t.1)
