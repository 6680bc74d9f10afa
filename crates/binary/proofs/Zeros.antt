-- Tests of a value that pass exactly where every byte that the value is read from is zero.
use Prim.Native.Nat.{ℕ, zero, suc, ◌+◌, ◌*◌}
use native.Mathlib.Nat.{zero-mul}
use native.Mathlib.Omega.{arith}
use mathlib.Core.Path.{◌≡◌, refl, sym, ap, ◌∙◌}
use mathlib.Core.Bool.{Bool, ◌&&◌, and_assoc}
use mathlib.Core.List.{List, [], ◌∷◌, ◌++◌}
use lib.Dec.{eqb, eqb-suc-zero}
use lib.ListN.{take, drop}
use lib.Seq.{take-add, drop-nil, drop-drop}
use borrow.Author.Tests.{ne_eqb}
use Rattle.lists.specs.Fold.{all}
use Rattle.binary.specs.Number.{from_bytes, is_zero_from}
use Rattle.binary.specs.Codec.{Codec, number, decode_rows, ◌⊗◌}
use Rattle.binary.proofs.Slices.{drop-take}
use Rattle.binary.proofs.Rows.{suc-rows}

infixr 60 ◌⊗-zero◌
-- p passes where the bytes of the value are zero
pub record ZeroTest {A : Type 0} (f : Codec A) (p : A → Bool) : Type 0 where
  pub passes : (b : List ℕ) → p (f.decode b) ≡ is_zero_from 0 (take f.width b)

zero-append : (a b : List ℕ) → is_zero_from 0 (a ++ b) ≡ (is_zero_from 0 a && is_zero_from 0 b)
unfolding is_zero_from all
zero-append [] b = refl
zero-append (x ∷ xs) b = ap (λ (t : Bool). eqb x 0 && t) (zero-append xs b) ∙ sym (and_assoc (eqb x 0) (is_zero_from 0 xs) (is_zero_from 0 b))

-- the lowest byte x and the number of the other bytes
sum-zero : (x n : ℕ) → eqb (x + 256 * n) 0 ≡ (eqb x 0 && eqb n 0)
sum-zero zero zero = refl
sum-zero zero (suc n) = ne_eqb (0 + 256 * suc n) 0 (λ e. omega arith) ∙ sym (eqb-suc-zero n)
sum-zero (suc x) n = rw (eqb-suc-zero x) (ne_eqb (suc x + 256 * n) 0 (λ e. omega arith))

-- a little-endian number
pub number-zero : (w : ℕ) → ZeroTest (number w) (λ x. eqb x 0)
unfolding from_bytes is_zero_from all
number-zero w = record { passes = zero_of w }
  where
    zero_of : (w : ℕ) (b : List ℕ) → eqb (from_bytes w b) 0 ≡ is_zero_from 0 (take w b)
    zero_of zero b = refl
    zero_of (suc w) [] = refl
    zero_of (suc w) (x ∷ xs) = sum-zero x (from_bytes w xs) ∙ ap (λ (t : Bool). eqb x 0 && t) (zero_of w xs)

-- one after the other
pub ◌⊗-zero◌ : {A B : Type 0} {f : Codec A} {g : Codec B} {p : A → Bool} {q : B → Bool} → ZeroTest f p → ZeroTest g q → ZeroTest (f ⊗ g)
    (λ x. p x.0 && q x.1)
◌⊗-zero◌ {f} F G = record { passes = λ b. rw (take-add, zero-append, F.passes b, G.passes (drop f.width b)) }

-- rows from index i on, of n rows of one format
module _ {A : Type 0} {f : Codec A} {p : A → Bool} (F : ZeroTest f p) where
  pub rows-zero : (n i : ℕ) (b : List ℕ) → all p (drop i (decode_rows f n b)) ≡ is_zero_from (i * f.width) (take (n * f.width) b)
  unfolding all decode_rows is_zero_from
  rows-zero zero i b = rw (zero-mul, drop-nil i, drop-nil (i * f.width))
  rows-zero (suc n) zero b =
      let rest = rw zero-mul at (rows-zero n zero (drop f.width b)) in
      rw (zero-mul, ← suc-rows f n, take-add, zero-append, F.passes b, rest)
  rows-zero (suc n) (suc i) b = rw (← suc-rows f n, ← suc-rows f i, ← drop-drop, drop-take) (rows-zero n i (drop f.width b))
