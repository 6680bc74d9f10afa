-- The bits of a number: of a union, of one bit, and how many are 1.
use mathlib.Core.Path.{◌≡◌, refl, ◌∙◌}
use mathlib.Core.Bool.{Bool, true, false, cond, ◌&&◌, ◌||◌}
use mathlib.Core.List.{List, [], ◌∷◌}
use Prim.Native.Nat.{ℕ, zero, suc, ◌+◌, ◌*◌, ◌/◌, ◌%◌, ◌^◌, ◌<◌}
use native.Mathlib.Nat.{add-zero, add-suc, suc-add, one-mul, zero-mul, zero-div, div-one, pow-suc}
use native.Mathlib.Numerals.{one-add}
use native.Mathlib.Omega.{arith}
use lib.Dec.{eqb, eqb-zero-suc, eqb-suc-zero, eqb-suc-suc}
use lib.ListN.{length, get_or}
use lib.Bits.{bit_or, or_shr, or_mod}
use lib.Pow.{shr-shr, shl_exact}
use lib.Count.{ones, ones_step, ones-le}
use Rattle.std.specs.Int.{from_bool}
use Rattle.lists.specs.Fold.{count_from}
use Rattle.records.specs.Code.{test_bit}

-- Bit k + 1 of a number is bit k of its half.
bit-suc : (n k : ℕ) → test_bit n (suc k) ≡ test_bit (n / 2) k
bit-suc n k = rw (← one-add k, ← shr-shr n 1 k)

pub no_bits : (k : ℕ) → test_bit 0 k ≡ false
no_bits k = rw zero-div

-- A bit of a union is 1 where it is 1 in either: the lowest bit, and then each.
digit_or : (p q : ℕ) → p < 2 → q < 2 → eqb (bit_or p q) 1 ≡ (eqb p 1 || eqb q 1)
digit_or zero q l m = refl
digit_or (suc zero) zero l m = refl
digit_or (suc zero) (suc zero) l m = refl
digit_or (suc zero) (suc (suc q)) l m = absurd (omega arith)
digit_or (suc (suc p)) q l m = absurd (omega arith)

pub bit-or : (a b k : ℕ) → test_bit (bit_or a b) k ≡ (test_bit a k || test_bit b k)
bit-or a b k = rw (or_shr a b k, or_mod (a / 2 ^ k) (b / 2 ^ k) 1) (digit_or (a / 2 ^ k % 2) (b / 2 ^ k % 2) (omega arith) (omega arith))

-- A power of two has one bit.
bit-power : (j k : ℕ) → test_bit (2 ^ j) k ≡ eqb j k
bit-power zero zero = refl
bit-power zero (suc k) = rw eqb-zero-suc (bit-suc 1 k ∙ no_bits k)
bit-power (suc j) zero = let even : 2 ^ suc j / 1 % 2 ≡ 0 = omega (arith, pow-suc 2 j) in rw (even, eqb-suc-zero)
bit-power (suc j) (suc k) =
    let half : 2 ^ suc j / 2 ≡ 2 ^ j = omega (arith, pow-suc 2 j) in
    rw eqb-suc-suc (bit-suc (2 ^ suc j) k ∙ rw half (bit-power j k))

-- A flag as a number.
pub flag-number : (h : Bool) → from_bool h ≡ cond h 1 0
flag-number true = refl
flag-number false = refl

-- Bit j of 32 alone, where h holds.
pub bit_shifted : (h : Bool) (j k : ℕ) → j < 32 → test_bit ((cond h 1 0 * 2 ^ j) % 2 ^ 32) k ≡ (h && eqb j k)
bit_shifted true j k l = rw (shl_exact {a = 1} 1 j 32 (omega arith) (omega arith), one-mul) (bit-power j k)
bit_shifted false j k l = rw zero-mul (no_bits k)

-- A digit is 1 or 0.
digit : (d : ℕ) → d < 2 → d ≡ cond (eqb d 1) 1 0
digit zero l = refl
digit (suc zero) l = refl
digit (suc (suc d)) l = absurd (omega arith)

-- The ones of a number are as many as the elements whose bit is 1.
pub count_bits : {A : Type 0} (p : ℕ → A → Bool) (d : A) (i n : ℕ) (xs : List A) → n < 2 ^ length xs
    → ((k : ℕ) → test_bit n k ≡ p (i + k) (get_or xs k d)) → ones n ≡ count_from p i xs
unfolding count_from
count_bits p d i n [] l h = omega (arith, ones-le 0 n l)
count_bits p d i n (x ∷ xs) l h =
    let here : eqb (n % 2) 1 ≡ p i x = rw (add-zero, div-one) at (h 0) in
    let there = count_bits p d (suc i) (n / 2) xs (omega (arith, pow-suc 2 (length xs))) (λ k. rw (suc-add, ← add-suc, ← bit-suc n k) (h (suc k))) in
    let low : n % 2 ≡ cond (p i x) 1 0 = rw (← here) (digit (n % 2) (omega arith)) in
    ones_step n ∙ rw (low, there)
