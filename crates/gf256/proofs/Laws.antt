-- The laws of sums and products. Every element but 0 is a power of 3, and a product with 3 goes out of every product, so the laws of products follow by
-- counting how often.
use mathlib.Core.Path.{◌≡◌, refl, sym, ap, ap₂, ◌∙◌}
use mathlib.Core.Logic.{◌≢◌, ◌⊎◌, inl, inr}
use mathlib.Core.List.{List}
use Prim.Native.Nat.{ℕ, zero, suc, ◌+◌, ◌-◌, ◌*◌, ◌/◌, ◌%◌, ◌<◌, ◌≤◌}
use native.Mathlib.Nat.{zero-add, suc-add, mul-suc, mod-lt, mod-eq_of_lt, zero-lt-suc}
use native.Mathlib.Nat as Nat
use native.Mathlib.Omega.{arith}
use lib.Bits.{bit_xor, xor_assoc, xor_mod, xor_zero_r, xor_self, xor_comm, xor_lt}
use lib.ListN.{get_or}
use Rattle.gf256.specs.Field.{add, scaled, mul, power, inverse, divide}
use Rattle.gf256.specs.Tables.{ArePowers, AreLogarithms}
use Rattle.gf256.proofs.Xor.{xor-four}
use Rattle.gf256.proofs.Products.{scaled-byte, times_x, product, thrice, product-thrice, product-zero, product-of-zero, remainder-times}
use Rattle.gf256.proofs.Entries.{powers, logs, log, tested, entry-up, up, up_up, up-sum, product-up, powers-end, up-log}

-- ---- products of bytes, by Horner's rule

as-power : (a : ℕ) → a < 256 → (a ≡ 0) ⊎ ((i : ℕ) × (up i 1 ≡ a))
as-power zero h = inl refl
as-power (suc a) h = inr (log (suc a), up-log a h)

product-byte : (n a b : ℕ) → a < 256 → product n a b < 256
unfolding product
product-byte zero a b h = omega arith
product-byte (suc n) a b h =
    xor_lt 8 (scaled (b % 2) a) (times_x (product n a (b / 2))) (scaled-byte (b % 2) a h)
    (tested (product n a (b / 2)) (product-byte n a (b / 2) h)).times_x-byte

by-power : (i : ℕ) {a : ℕ} (b : ℕ) → up i 1 ≡ a → b < 256 → product 8 a b ≡ up i b
by-power i b e h = ap (λ (x : ℕ). product 8 x b) (sym e) ∙ product-up 8 i 1 b ∙ ap (up i) (tested b h).one_product

product-comm : (a b : ℕ) → a < 256 → b < 256 → product 8 a b ≡ product 8 b a
product-comm a b ha hb = go (as-power a ha) (as-power b hb)
  where
    go : (a ≡ 0) ⊎ ((i : ℕ) × (up i 1 ≡ a)) → (b ≡ 0) ⊎ ((i : ℕ) × (up i 1 ≡ b)) → product 8 a b ≡ product 8 b a
    go (inl e) q = rw e (product-zero 8 b ∙ sym (product-of-zero 8 b))
    go (inr p) (inl e) = rw e (product-of-zero 8 a ∙ sym (product-zero 8 a))
    go (inr (i, e)) (inr (j, f)) =
        by-power i b e hb
        ∙ ap (up i) (sym f)
        ∙ up_up i j 1
        ∙ ap (λ (n : ℕ). up n 1) (Nat.add_comm i j)
        ∙ sym (up_up j i 1)
        ∙ ap (up j) e
        ∙ sym (by-power j a f ha)

product-assoc : (a b c : ℕ) → a < 256 → b < 256 → product 8 (product 8 a b) c ≡ product 8 a (product 8 b c)
product-assoc a b c ha hb = go (as-power a ha)
  where
    go : (a ≡ 0) ⊎ ((i : ℕ) × (up i 1 ≡ a)) → product 8 (product 8 a b) c ≡ product 8 a (product 8 b c)
    go (inl e) = rw e (ap (λ (x : ℕ). product 8 x c) (product-zero 8 b) ∙ product-zero 8 c ∙ sym (product-zero 8 (product 8 b c)))
    go (inr (i, e)) =
        ap (λ (x : ℕ). product 8 x c) (by-power i b e hb) ∙ product-up 8 i b c ∙ sym (by-power i (product 8 b c) e (product-byte 8 b c hb))

product-sum : (a b c : ℕ) → a < 256 → b < 256 → c < 256 → product 8 a (bit_xor b c) ≡ bit_xor (product 8 a b) (product 8 a c)
product-sum a b c ha hb hc = go (as-power a ha)
  where
    go : (a ≡ 0) ⊎ ((i : ℕ) × (up i 1 ≡ a)) → product 8 a (bit_xor b c) ≡ bit_xor (product 8 a b) (product 8 a c)
    go (inl e) = rw e (product-zero 8 (bit_xor b c) ∙ sym (ap₂ bit_xor (product-zero 8 b) (product-zero 8 c)))
    go (inr (i, e)) = by-power i (bit_xor b c) e (xor_lt 8 b c hb hc) ∙ up-sum i b c ∙ sym (ap₂ bit_xor (by-power i b e hb) (by-power i c e hc))

-- ---- sums

pub add_assoc : (a b c : ℕ) → add (add a b) c ≡ add a (add b c)
unfolding add
add_assoc a b c = xor_assoc a b c

pub add-four : (a b c d : ℕ) → add (add a b) (add c d) ≡ add (add a c) (add b d)
unfolding add
add-four a b c d = xor-four a b c d

pub add_comm : (a b : ℕ) → add a b ≡ add b a
unfolding add
add_comm a b = xor_comm a b

pub add-zero : (a : ℕ) → add a 0 ≡ a
unfolding add
add-zero a = xor_zero_r a

pub add-self : (a : ℕ) → add a a ≡ 0
unfolding add
add-self a = xor_self a

pub add-byte : (a b : ℕ) → a < 256 → b < 256 → add a b < 256
unfolding add
add-byte a b ha hb = xor_lt 8 a b ha hb

-- ---- products

byte : (a : ℕ) → a % 256 < 256
byte a = mod-lt a (zero-lt-suc 255)

mul_is : (a b : ℕ) → mul a b ≡ product 8 (a % 256) (b % 256)
unfolding mul
mul_is a b = remainder-times 7 (a % 256) (b % 256) (byte a)

mul-bytes : (a b : ℕ) → a < 256 → b < 256 → mul a b ≡ product 8 a b
mul-bytes a b ha hb = mul_is a b ∙ ap₂ (product 8) (mod-eq_of_lt ha) (mod-eq_of_lt hb)

pub mul-byte : (a b : ℕ) → mul a b < 256
mul-byte a b = rw (mul_is a b) (product-byte 8 (a % 256) (b % 256) (byte a))

pub mul_comm : (a b : ℕ) → mul a b ≡ mul b a
mul_comm a b = mul_is a b ∙ product-comm (a % 256) (b % 256) (byte a) (byte b) ∙ sym (mul_is b a)

pub mul_assoc : (a b c : ℕ) → mul (mul a b) c ≡ mul a (mul b c)
mul_assoc a b c =
    mul_is (mul a b) c
    ∙ ap (λ (x : ℕ). product 8 x (c % 256)) (mod-eq_of_lt (mul-byte a b) ∙ mul_is a b)
    ∙ product-assoc (a % 256) (b % 256) (c % 256) (byte a) (byte b)
    ∙ sym (mul_is a (mul b c) ∙ ap (product 8 (a % 256)) (mod-eq_of_lt (mul-byte b c) ∙ mul_is b c))

pub mul-add : (a b c : ℕ) → mul a (add b c) ≡ add (mul a b) (mul a c)
unfolding add
mul-add a b c =
    mul_is a (bit_xor b c)
    ∙ ap (product 8 (a % 256)) (xor_mod b c 8)
    ∙ product-sum (a % 256) (b % 256) (c % 256) (byte a) (byte b) (byte c)
    ∙ sym (ap₂ bit_xor (mul_is a b) (mul_is a c))

pub mul-zero : (a : ℕ) → mul a 0 ≡ 0
mul-zero a = mul_is a 0 ∙ product-of-zero 8 (a % 256)

pub zero-mul : (a : ℕ) → mul 0 a ≡ 0
zero-mul a = mul_comm 0 a ∙ mul-zero a

pub one-mul : (a : ℕ) → a < 256 → mul 1 a ≡ a
one-mul a h = mul-bytes 1 a (omega arith) h ∙ (tested a h).one_product

-- ---- powers of 3

pub power-byte : (n a : ℕ) → power n a < 256
unfolding power
power-byte zero a = omega arith
power-byte (suc n) a = mul-byte a (power n a)

thrice-one : 3 ≡ thrice 1
unfolding thrice times_x
thrice-one = refl

pub power-suc : (n a : ℕ) → power (suc n) a ≡ mul a (power n a)
unfolding power
power-suc n a = refl

mul-three : (a : ℕ) → a < 256 → mul 3 a ≡ thrice a
mul-three a h = mul-bytes 3 a (omega arith) h ∙ ap (λ (x : ℕ). product 8 x a) thrice-one ∙ product-thrice 8 1 a ∙ ap thrice (tested a h).one_product

pub power-up : (i : ℕ) → power i 3 ≡ up i 1
unfolding power up
power-up zero = refl
power-up (suc i) = mul-three (power i 3) (power-byte i 3) ∙ ap thrice (power-up i)

pub power-add : (a i j : ℕ) → mul (power i a) (power j a) ≡ power (i + j) a
unfolding power
power-add a zero j = one-mul (power j a) (power-byte j a) ∙ ap (λ (n : ℕ). power n a) (sym (zero-add j))
power-add a (suc i) j =
    mul_assoc a (power i a) (power j a) ∙ ap (mul a) (power-add a i j) ∙ ap (λ (n : ℕ). power n a) (sym (suc-add i j))

-- the power of a power
power-power : (a i n : ℕ) → power n (power i a) ≡ power (i * n) a
unfolding power
power-power a i zero = ap (λ (k : ℕ). power k a) (sym (Nat.mul-zero i))
power-power a i (suc n) =
    ap (mul (power i a)) (power-power a i n) ∙ power-add a i (i * n) ∙ ap (λ (k : ℕ). power k a) (Nat.add_comm i (i * n) ∙ sym (mul-suc i n))

up_none : up 0 1 ≡ 1
unfolding up
up_none = refl

-- 255 steps, any number of times over, lead back to 1
cycle : (n : ℕ) → power (255 * n) 3 ≡ 1
cycle zero = power-up 0 ∙ up_none
cycle (suc n) =
    ap (λ (k : ℕ). power k 3) (mul-suc 255 n)
    ∙ sym (power-add 3 (255 * n) 255)
    ∙ ap₂ mul (cycle n) (power-up 255 ∙ powers-end)
    ∙ one-mul 1 (omega arith)

-- ---- inverses

pub log-power : (a : ℕ) → a < 256 → a ≢ 0 → power (log a) 3 ≡ a
log-power zero h n = absurd (n refl)
log-power (suc a) h n = power-up (log (suc a)) ∙ up-log a h

pub inverse-byte : (a : ℕ) → inverse a < 256
unfolding inverse
inverse-byte a = power-byte 254 a

pub mul-inverse : (a : ℕ) → a < 256 → a ≢ 0 → mul a (inverse a) ≡ 1
unfolding inverse
mul-inverse a h n =
    let e = log-power a h n in
    sym (power-suc 254 a)
    ∙ ap (power 255) (sym e)
    ∙ power-power 3 (log a) 255
    ∙ ap (λ (k : ℕ). power k 3) (Nat.mul_comm (log a) 255)
    ∙ cycle (log a)

pub inverse-zero : inverse 0 ≡ 0
unfolding inverse
inverse-zero = power-suc 253 0 ∙ zero-mul (power 253 0)

-- the only inverse
pub inverse-only : (a b : ℕ) → a < 256 → a ≢ 0 → b < 256 → mul a b ≡ 1 → b ≡ inverse a
inverse-only a b ha na hb e =
    sym (one-mul b hb)
    ∙ ap (λ (x : ℕ). mul x b) (sym (mul-inverse a ha na) ∙ mul_comm a (inverse a))
    ∙ mul_assoc (inverse a) a b
    ∙ ap (mul (inverse a)) e
    ∙ mul_comm (inverse a) 1
    ∙ one-mul (inverse a) (inverse-byte a)

-- ---- what the code reads in its tables

pub are-powers : ArePowers powers
are-powers = record { size = refl; each = λ i h. entry-up i h ∙ sym (power-up i) }

pub are-logarithms : AreLogarithms logs
unfolding log
are-logarithms = record { size = refl; below = λ a h. (tested a h).log-below; each = log-power }

-- 3 to a power from 255 on
pub power-again : (table : List ℕ) → ArePowers table → (i : ℕ) → 255 ≤ i → i < 510 → get_or table (i - 255) 0 ≡ power i 3
power-again table t i l h =
    t.each (i - 255) (omega arith)
    ∙ sym (one-mul (power (i - 255) 3) (power-byte (i - 255) 3))
    ∙ ap (λ (x : ℕ). mul x (power (i - 255) 3)) (sym (cycle 1))
    ∙ power-add 3 255 (i - 255)
    ∙ ap (λ (k : ℕ). power k 3) (let e : 255 + (i - 255) ≡ i = omega arith in e)

-- a product, and a quotient, by logarithms
pub mul-logs : (a b l m : ℕ) → power l 3 ≡ a → power m 3 ≡ b → power (l + m) 3 ≡ mul a b
mul-logs a b l m e f = sym (power-add 3 l m) ∙ ap₂ mul e f

pub divide-logs : (a b l m : ℕ) → power l 3 ≡ a → power m 3 ≡ b → m < 255 → b < 256 → b ≢ 0 → power (l + (255 - m)) 3 ≡ divide a b
divide-logs a b l m e f h hb n =
    let i = power (255 - m) 3 in
    let whole : mul b i ≡ 1 =
    ap (λ (x : ℕ). mul x i) (sym f) ∙ power-add 3 m (255 - m) ∙ ap (λ (k : ℕ). power k 3) (let s : m + (255 - m) ≡ 255 * 1 = omega arith in s) ∙ cycle 1 in
    mul-logs a (inverse b) l (255 - m) e (inverse-only b i hb n (power-byte (255 - m) 3) whole)

pub ruleset by_logarithms = (zero-mul, mul-zero, inverse-zero, power-again, mul-logs, divide-logs)
