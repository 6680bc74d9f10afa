-- Words of the code's contracts. Nothing of the paper.
use Rattle.std.specs.Prelude.{ℕ, ◌+◌, ◌-◌, ◌*◌, Bool, cond, ◌&&◌, List, eqb, ltb}
use Rattle.binary.specs.Number.{byte_at}
use Rattle.decimal.specs.Decimal.{is_digit}

-- day n of a year, counted from 0, in a year whose February has 30 days: the days from March on come later
unfoldable pub stretched : Bool → ℕ → ℕ
stretched leap n = cond leap (cond (ltb n 60) n (n + 1)) (cond (ltb n 59) n (n + 2))

-- two characters are digits, and the number that they are
abbrev pub are_digits : ℕ → ℕ → Bool
are_digits a b = is_digit a && is_digit b

abbrev pub two_digits : ℕ → ℕ → ℕ
two_digits a b = 10 * (a - 48) + (b - 48)

-- ten characters stand as in a date: digits for year, month and day, and hyphens between them
unfoldable pub is_date_like : List ℕ → Bool
is_date_like text =
    (are_digits (byte_at 0 text) (byte_at 1 text) && are_digits (byte_at 2 text) (byte_at 3 text))
    && ((eqb (byte_at 4 text) 45 && are_digits (byte_at 5 text) (byte_at 6 text))
    && (eqb (byte_at 7 text) 45 && are_digits (byte_at 8 text) (byte_at 9 text)))
