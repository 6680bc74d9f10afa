-- "the field of 256 elements with polynomial 0x11B". A byte stands for a polynomial over two elements: its bit i is the coefficient of x to the power i.
use Rattle.std.specs.Prelude.{ℕ, zero, suc, ◌+◌, ◌*◌, ◌/◌, ◌%◌, ◌^◌}
use Rattle.std.specs.Int.Bits.{bit_xor}

-- the sum, coefficient by coefficient; each element is its own negative, so it is the difference too
unfoldable pub add : ℕ → ℕ → ℕ
add a b = bit_xor a b

-- a polynomial times a coefficient
abbrev pub scaled : ℕ → ℕ → ℕ
scaled zero p = 0
scaled (suc c) p = p

-- the product of polynomials, of which b has n coefficients: the lowest one of b times a, and x times the product with the others
unfoldable pub times : ℕ → ℕ → ℕ → ℕ
times zero a b = 0
times (suc n) a b = bit_xor (scaled (b % 2) a) (times n a (b / 2) * 2)

-- x⁸ + x⁴ + x³ + x + 1
abbrev pub modulus : ℕ
modulus = 0x11B

-- the remainder by it of a polynomial of 8 + n coefficients: from the highest one down, each is cleared by a multiple of the modulus
unfoldable pub remainder : ℕ → ℕ → ℕ
remainder zero p = p
remainder (suc n) p = remainder n (bit_xor p (scaled (p / 2 ^ (8 + n) % 2) (modulus * 2 ^ n)))

-- the product of two bytes; of larger numbers the low 8 bits count
unfoldable pub mul : ℕ → ℕ → ℕ
mul a b = remainder 7 (times 8 (a % 256) (b % 256))

unfoldable pub power : ℕ → ℕ → ℕ
power zero a = 1
power (suc n) a = mul a (power n a)

-- the inverse, as the 255th power of every element but 0 is 1; that of 0 is 0
unfoldable pub inverse : ℕ → ℕ
inverse a = power 254 a

abbrev pub divide : ℕ → ℕ → ℕ
divide a b = mul a (inverse b)
