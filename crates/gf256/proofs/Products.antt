-- The product by Horner's rule, which takes the remainder at each step, is the remainder of the product. Sums go through it, and so does a product with 3.
use mathlib.Core.Path.{◌≡◌, refl, sym, ap, ap₂, ◌∙◌}
use Prim.Native.Nat.{ℕ, zero, suc, ◌+◌, ◌*◌, ◌/◌, ◌%◌, ◌^◌, ◌<◌}
use native.Mathlib.Nat.{zero-lt-suc, le-add_right, lt_of_lt_of_le, mul_assoc, mul-div-mul_right, div-eq_of_lt, pow-suc, add-suc}
use native.Mathlib.Omega.{arith}
use lib.Bits.{bit_xor, xor_shr, xor_mod, xor_zero_r, xor_self}
use lib.Pow.{pow_mono}
use Rattle.gf256.specs.Field.{scaled, times, modulus, remainder}
use Rattle.gf256.proofs.Xor.{bit-lt, xor-four, xor-double}

-- ---- a polynomial times a coefficient

scaled-xor : (s t c : ℕ) → s < 2 → t < 2 → scaled (bit_xor s t) c ≡ bit_xor (scaled s c) (scaled t c)
scaled-xor zero t c hs ht = refl
scaled-xor (suc zero) zero c hs ht = sym (xor_zero_r c)
scaled-xor (suc zero) (suc zero) c hs ht = sym (xor_self c)
scaled-xor (suc zero) (suc (suc t)) c hs ht = absurd (omega arith)
scaled-xor (suc (suc s)) t c hs ht = absurd (omega arith)

scaled-double : (t c : ℕ) → scaled t c * 2 ≡ scaled t (c * 2)
scaled-double zero c = refl
scaled-double (suc t) c = refl

-- a multiple m of the modulus is taken off p where the coefficient at 2 ^ k is 1
abbrev clear : ℕ → ℕ → ℕ → ℕ
clear k m p = bit_xor p (scaled (p / 2 ^ k % 2) m)

clear-sum : (k m p q : ℕ) → clear k m (bit_xor p q) ≡ bit_xor (clear k m p) (clear k m q)
clear-sum k m p q =
    ap (λ (x : ℕ). bit_xor (bit_xor p q) (scaled x m)) (ap (λ (x : ℕ). x % 2) (xor_shr p q k) ∙ xor_mod (p / 2 ^ k) (q / 2 ^ k) 1)
    ∙ ap (bit_xor (bit_xor p q)) (scaled-xor (p / 2 ^ k % 2) (q / 2 ^ k % 2) m (bit-lt (p / 2 ^ k)) (bit-lt (q / 2 ^ k)))
    ∙ xor-four p q (scaled (p / 2 ^ k % 2) m) (scaled (q / 2 ^ k % 2) m)

clear-small : (n m p : ℕ) → p < 256 → clear (8 + n) m p ≡ p
clear-small n m p h =
    ap (λ (x : ℕ). bit_xor p (scaled (x % 2) m)) (div-eq_of_lt (lt_of_lt_of_le h (pow_mono {i = 8} {j = 8 + n} (le-add_right 8 n)))) ∙ xor_zero_r p

clear-double : (k m p : ℕ) → clear (suc k) (m * 2) (p * 2) ≡ clear k m p * 2
clear-double k m p =
    ap (λ (x : ℕ). bit_xor (p * 2) (scaled (x % 2) (m * 2))) (ap (λ (x : ℕ). p * 2 / x) (pow-suc 2 k) ∙ mul-div-mul_right p (2 ^ k) (zero-lt-suc 1))
    ∙ ap (bit_xor (p * 2)) (sym (scaled-double (p / 2 ^ k % 2) m))
    ∙ sym (xor-double p (scaled (p / 2 ^ k % 2) m))

-- ---- remainders

remainder-sum : (n p q : ℕ) → remainder n (bit_xor p q) ≡ bit_xor (remainder n p) (remainder n q)
unfolding remainder
remainder-sum zero p q = refl
remainder-sum (suc n) p q =
    let m = modulus * 2 ^ n in
    ap (remainder n) (clear-sum (8 + n) m p q)
    ∙ remainder-sum n (clear (8 + n) m p) (clear (8 + n) m q)

remainder-small : (n p : ℕ) → p < 256 → remainder n p ≡ p
unfolding remainder
remainder-small zero p h = refl
remainder-small (suc n) p h = ap (remainder n) (clear-small n (modulus * 2 ^ n) p h) ∙ remainder-small n p h

-- a byte times x
unfoldable pub times_x : ℕ → ℕ
times_x a = clear 8 modulus (a * 2)

remainder-double : (n p : ℕ) → remainder (suc n) (p * 2) ≡ times_x (remainder n p)
unfolding remainder times_x
remainder-double zero p = refl
remainder-double (suc n) p =
    let m = modulus * 2 ^ n in
    let twice : modulus * 2 ^ suc n ≡ m * 2 = ap (λ (x : ℕ). modulus * x) (pow-suc 2 n) ∙ sym (mul_assoc modulus (2 ^ n) 2) in
    ap (λ (x : ℕ). remainder (suc n) (clear (8 + suc n) x (p * 2))) twice
    ∙ ap (remainder (suc n)) (ap (λ (x : ℕ). clear x (m * 2) (p * 2)) (add-suc 8 n) ∙ clear-double (8 + n) m p)
    ∙ remainder-double n (clear (8 + n) m p)

-- ---- Horner's rule

unfoldable pub product : ℕ → ℕ → ℕ → ℕ
product zero a b = 0
product (suc n) a b = bit_xor (scaled (b % 2) a) (times_x (product n a (b / 2)))

pub scaled-byte : (t a : ℕ) → a < 256 → scaled t a < 256
scaled-byte zero a h = omega arith
scaled-byte (suc t) a h = h

pub remainder-times : (n a b : ℕ) → a < 256 → remainder n (times (suc n) a b) ≡ product (suc n) a b
unfolding times product
remainder-times zero a b h = unfold times_x remainder in refl
remainder-times (suc n) a b h =
    let low = scaled (b % 2) a in
    let rest = times (suc n) a (b / 2) in
    remainder-sum (suc n) low (rest * 2)
    ∙ ap₂ bit_xor (remainder-small (suc n) low (scaled-byte (b % 2) a h)) (remainder-double n rest ∙ ap times_x (remainder-times n a (b / 2) h))

-- ---- the product with 3, which is x + 1

times_x-sum : (a b : ℕ) → times_x (bit_xor a b) ≡ bit_xor (times_x a) (times_x b)
unfolding times_x
times_x-sum a b = ap (clear 8 modulus) (xor-double a b) ∙ clear-sum 8 modulus (a * 2) (b * 2)

pub times_x-zero : times_x 0 ≡ 0
unfolding times_x
times_x-zero = refl

unfoldable pub thrice : ℕ → ℕ
thrice a = bit_xor a (times_x a)

pub thrice-sum : (a b : ℕ) → thrice (bit_xor a b) ≡ bit_xor (thrice a) (thrice b)
unfolding thrice
thrice-sum a b = ap (bit_xor (bit_xor a b)) (times_x-sum a b) ∙ xor-four a b (times_x a) (times_x b)

thrice-X : (a : ℕ) → times_x (thrice a) ≡ thrice (times_x a)
unfolding thrice
thrice-X a = times_x-sum a (times_x a)

thrice-zero : thrice 0 ≡ 0
unfolding thrice
thrice-zero = rw times_x-zero

thrice-scaled : (t a : ℕ) → scaled t (thrice a) ≡ thrice (scaled t a)
thrice-scaled zero a = sym thrice-zero
thrice-scaled (suc t) a = refl

pub product-thrice : (n a b : ℕ) → product n (thrice a) b ≡ thrice (product n a b)
unfolding product
product-thrice zero a b = sym thrice-zero
product-thrice (suc n) a b =
    ap₂ bit_xor (thrice-scaled (b % 2) a) (ap times_x (product-thrice n a (b / 2)) ∙ thrice-X (product n a (b / 2)))
    ∙ sym (thrice-sum (scaled (b % 2) a) (times_x (product n a (b / 2))))

pub product-zero : (n b : ℕ) → product n 0 b ≡ 0
unfolding product
product-zero zero b = refl
product-zero (suc n) b = ap₂ bit_xor (none (b % 2)) (ap times_x (product-zero n (b / 2)) ∙ times_x-zero)
  where
    none : (t : ℕ) → scaled t 0 ≡ 0
    none zero = refl
    none (suc t) = refl

pub product-of-zero : (n a : ℕ) → product n a 0 ≡ 0
unfolding product
product-of-zero zero a = refl
product-of-zero (suc n) a = ap times_x (product-of-zero n a) ∙ times_x-zero
