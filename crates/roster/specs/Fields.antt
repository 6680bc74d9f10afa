-- The fields of a roster's line: "login (1 to 10 decimal digits, from 1 to 4294967295), end date from 1970-01-01 to 2099-12-31 as in A1, rights as
-- four hexadecimal digits of either case, not zero". The end date is the calendar's `day_in`.
use Rattle.std.specs.Prelude.{ℕ, zero, suc, ◌+◌, ◌-◌, ◌*◌, ◌/◌, ◌%◌, List, [], ◌∷◌, ◌++◌, Bool, cond, ◌&&◌, ◌||◌, eqb, ltb, leb, length}
use Rattle.std.proofs.Math.Option.{Option, none, some}
use Rattle.lists.specs.Fold.{all}
use Rattle.decimal.specs.Decimal.{is_digit, number_in}

-- "login (1 to 10 decimal digits, from 1 to 4294967295)"
abbrev pub most_login_digits : ℕ
most_login_digits = 10

abbrev pub is_login_number : ℕ → Bool
is_login_number x = leb 1 x && leb x 4294967295

unfoldable pub login_in : List ℕ → Option ℕ
login_in text =
    let x = number_in text in
    cond (all is_digit text && ((leb 1 (length text) && leb (length text) most_login_digits) && is_login_number x)) (some x) none

-- a hexadecimal digit "of either case"
abbrev pub is_capital : ℕ → Bool
is_capital c = leb 65 c && leb c 70

abbrev pub is_small : ℕ → Bool
is_small c = leb 97 c && leb c 102

abbrev pub is_hex_digit : ℕ → Bool
is_hex_digit c = is_digit c || (is_capital c || is_small c)

-- the value of one
abbrev pub hex_value : ℕ → ℕ
hex_value c = cond (is_digit c) (c - 48) (cond (is_capital c) (c - 55) (c - 87))

-- the number that begins with the digits of v and goes on with those of the text
unfoldable pub hex_from : ℕ → List ℕ → ℕ
hex_from v [] = v
hex_from v (c ∷ cs) = hex_from (16 * v + hex_value c) cs

-- "rights as four hexadecimal digits of either case, not zero"
abbrev pub rights_digits : ℕ
rights_digits = 4

unfoldable pub rights_in : List ℕ → Option ℕ
rights_in text =
    let x = hex_from 0 text in
    cond (all is_hex_digit text && (eqb (length text) rights_digits && leb 1 x)) (some x) none

-- ---- and back

-- "capital hexadecimal": a digit, and the last w digits of x
abbrev pub hex_digit : ℕ → ℕ
hex_digit x = cond (ltb x 10) (48 + x) (55 + x)

unfoldable pub hex_text : ℕ → ℕ → List ℕ
hex_text zero x = []
hex_text (suc w) x = hex_text w (x / 16) ++ (hex_digit (x % 16) ∷ [])
