-- Words of the code's contracts. Nothing of the paper.
use Rattle.std.specs.Prelude.{ℕ, ◌/◌, ◌%◌, ◌^◌, Bool, eqb}

-- bit k of a number is 1
abbrev pub test_bit : ℕ → ℕ → Bool
test_bit n k = eqb (n / 2 ^ k % 2) 1
