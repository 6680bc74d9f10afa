-- Words of the code's contracts. Nothing of the paper.
use Rattle.std.specs.Prelude.{ℕ, zero, suc, ◌+◌, ◌-◌, ◌*◌, List, [], ◌∷◌, cond}
use Rattle.decimal.specs.Decimal.{is_digit}

-- the most digits that are read: every number of so many is one of 64 bits
abbrev pub most_read : ℕ
most_read = 18

-- the number that begins with the digits of v and goes on with up to n digits of the text, and the text behind them
unfoldable pub digits_in : ℕ → ℕ → List ℕ → ℕ × List ℕ
digits_in zero v text = (v, text)
digits_in (suc n) v [] = (v, [])
digits_in (suc n) v (c ∷ cs) = cond (is_digit c) (digits_in n (10 * v + (c - 48)) cs) (v, c ∷ cs)
