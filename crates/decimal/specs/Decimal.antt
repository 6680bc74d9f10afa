-- Numbers in decimal, in ASCII.
use Rattle.std.specs.Prelude.{ℕ, zero, suc, ◌+◌, ◌-◌, ◌*◌, ◌/◌, ◌%◌, List, [], ◌∷◌, ◌++◌, Bool, cond, ◌&&◌, ltb, leb, length, replicate}

-- x in decimal: its last k digits, without zeros in front
unfoldable pub digits : ℕ → ℕ → List ℕ
digits zero x = []
digits (suc k) x = cond (ltb x 10) ((48 + x) ∷ []) (digits k (x / 10) ++ ((48 + x % 10) ∷ []))

-- twenty digits hold every number of 64 bits
abbrev pub most_digits : ℕ
most_digits = 20

abbrev pub decimal : ℕ → List ℕ
decimal x = digits most_digits x

-- right-aligned in w places: spaces in front
abbrev pub aligned : ℕ → ℕ → List ℕ
aligned w x = replicate (w - length (decimal x)) 32 ++ decimal x

-- in w digits: zeros in front
unfoldable pub padded : ℕ → ℕ → List ℕ
padded zero x = []
padded (suc w) x = padded w (x / 10) ++ ((48 + x % 10) ∷ [])

-- ---- and back

abbrev pub is_digit : ℕ → Bool
is_digit c = leb 48 c && leb c 57

-- the number that begins with the digits of v and goes on with those in the text; what is no digit is passed over
unfoldable pub number_from : ℕ → List ℕ → ℕ
number_from v [] = v
number_from v (c ∷ cs) = number_from (cond (is_digit c) (10 * v + (c - 48)) v) cs

abbrev pub number_in : List ℕ → ℕ
number_in text = number_from 0 text
