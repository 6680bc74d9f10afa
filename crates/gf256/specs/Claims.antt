-- What is claimed of the field.
use Rattle.std.specs.Prelude.{◌≡◌, ◌≢◌, ℕ, ◌+◌, ◌<◌}
use Rattle.gf256.specs.Field.{add, mul, power, inverse}

-- Bytes with this sum and this product are a field.
pub record FieldLaws : Type 0 where
  pub add-byte : (a b : ℕ) → a < 256 → b < 256 → add a b < 256
  pub add_assoc : (a b c : ℕ) → add (add a b) c ≡ add a (add b c)
  pub add_comm : (a b : ℕ) → add a b ≡ add b a
  pub add-zero : (a : ℕ) → add a 0 ≡ a
  pub add-self : (a : ℕ) → add a a ≡ 0
  pub mul-byte : (a b : ℕ) → mul a b < 256
  pub mul_assoc : (a b c : ℕ) → mul (mul a b) c ≡ mul a (mul b c)
  pub mul_comm : (a b : ℕ) → mul a b ≡ mul b a
  pub mul-one : (a : ℕ) → a < 256 → mul a 1 ≡ a
  pub inverse-byte : (a : ℕ) → inverse a < 256
  pub mul-inverse : (a : ℕ) → a < 256 → a ≢ 0 → mul a (inverse a) ≡ 1
  pub distributes : (a b c : ℕ) → mul a (add b c) ≡ add (mul a b) (mul a c)

-- "the 255 powers of 3": every byte but 0 is one of them, and of one exponent below 255, its logarithm.
pub record Logarithm (a l : ℕ) : Type 0 where
  pub below : l < 255
  pub is : power l 3 ≡ a
  pub only : (m : ℕ) → m < 255 → power m 3 ≡ a → m ≡ l

abbrev pub PowersOfThree : Type 0
PowersOfThree = (a : ℕ) → a < 256 → a ≢ 0 → (l : ℕ) × Logarithm a l

-- "Multiplication uses a table of the 255 powers of 3 and its table of logarithms.": products are sums of logarithms.
abbrev pub ProductsByLogarithms : Type 0
ProductsByLogarithms = (i j : ℕ) → mul (power i 3) (power j 3) ≡ power (i + j) 3

-- The examples of FIPS 197 (the Advanced Encryption Standard), which uses this field: products, and a pair of inverses.
pub record PublishedExamples : Type 0 where
  pub product : mul 0x57 0x83 ≡ 0xC1
  pub by-0x13 : mul 0x57 0x13 ≡ 0xFE
  pub by-x : mul 0x57 0x02 ≡ 0xAE
  pub by-x² : mul 0x57 0x04 ≡ 0x47
  pub by-x³ : mul 0x57 0x08 ≡ 0x8E
  pub by-x⁴ : mul 0x57 0x10 ≡ 0x07
  pub inverse-of-0x53 : inverse 0x53 ≡ 0xCA
