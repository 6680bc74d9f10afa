-- The three calls: what each answers, and what its output slice then holds. Refusals "are tried in that order" and leave the slice as it was; "longer ones
-- keep their tail".
use Rattle.std.specs.Prelude.{ℕ, ◌*◌, ◌-◌, Bool, cond, ◌&&◌, List, leb, length, take, Result, Ok, Err}
use Rattle.binary.specs.Number.{overwrite}
use Rattle.refusals.specs.declared.Refusal.{Refusal}
use Rattle.refusals.specs.declared.Refusal.TheVariants.{OutOfRange, BadShareNumber, TooShort}
use Rattle.shares.specs.Polynomial.{sums}
use Rattle.shares.specs.Shares.{key_size, shares_of, merged_key, in_range, are_numbers}

pub record Outcome (A : Type 0) : Type 0 where
  pub answer : A
  pub slice : List ℕ

-- a slice of at least this many bytes
abbrev pub holds : ℕ → List ℕ → Bool
holds size slice = leb size (length slice)

-- "26, k or n out of range .. 28, a slice too short"
unfoldable pub split_of : List ℕ → ℕ → ℕ → List ℕ → List ℕ → Outcome (Result ℕ Refusal)
split_of key k n cs out =
    cond (in_range k n)
    (cond (holds key_size key && (holds (key_size * (k - 1)) cs && holds (key_size * n) out))
    (record { answer = Ok n; slice = overwrite (shares_of k key cs n) out })
    (record { answer = Err TooShort; slice = out }))
    (record { answer = Err OutOfRange; slice = out })

-- and between them "27, one of the first k share numbers zero, above n or repeated among them"
unfoldable pub merge_of : ℕ → ℕ → List ℕ → List ℕ → List ℕ → Outcome (Result Unit Refusal)
merge_of k n numbers shares out =
    cond (in_range k n)
    (cond (are_numbers n (take k numbers))
    (cond (holds k numbers && (holds (key_size * k) shares && holds key_size out))
    (record { answer = Ok tt; slice = overwrite (merged_key k numbers shares) out })
    (record { answer = Err TooShort; slice = out }))
    (record { answer = Err BadShareNumber; slice = out }))
    (record { answer = Err OutOfRange; slice = out })

-- A sum has as many bytes as the first run, "any length, 0 too". "28 where a slice is shorter than the first one's length"
unfoldable pub add_of : List ℕ → List ℕ → List ℕ → Outcome (Result ℕ Refusal)
add_of first second out =
    cond (holds (length first) second && holds (length first) out)
    (record { answer = Ok (length first); slice = overwrite (sums first second) out })
    (record { answer = Err TooShort; slice = out })
