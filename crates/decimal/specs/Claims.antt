-- What the decimal digits rest on.
use Rattle.std.specs.Prelude.{◌≡◌, ℕ, ◌+◌, ◌^◌, ◌≤◌, ◌<◌, length}
use Rattle.decimal.specs.Decimal.{digits, most_digits, decimal, aligned, padded, number_in}

-- Twenty digits hold every number of 64 bits: with room for more there are no more.
abbrev pub NoDigitLeftOut : Type 0
NoDigitLeftOut = (x k : ℕ) → x < 2 ^ 64 → digits (most_digits + k) x ≡ decimal x

-- A number below ten to the power of w takes w places, and is read back.
abbrev pub AlignedReadBack : Type 0
AlignedReadBack = (w x : ℕ) → 1 ≤ w → w ≤ most_digits → x < 10 ^ w → (length (aligned w x) ≡ w) × (number_in (aligned w x) ≡ x)

abbrev pub PaddedReadBack : Type 0
PaddedReadBack = (w x : ℕ) → x < 10 ^ w → (length (padded w x) ≡ w) × (number_in (padded w x) ≡ x)
