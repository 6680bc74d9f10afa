-- "end date as year-month-day in 10", in ASCII: 1970-05-01
use Rattle.std.specs.Prelude.{ℕ, Bool, cond, ◌&&◌, List, ◌∷◌, ◌++◌, leb, take, drop}
use Rattle.std.specs.Prelude as Rust
use Rattle.std.proofs.Math.Option.{Option, none, some}
use Rattle.binary.specs.Number.{is_same_bytes}
use Rattle.decimal.specs.Decimal.{padded, number_in}
use Rattle.calendar.specs.declared.Date.{Date}
use Rattle.calendar.specs.Calendar.{date, is_leap, month_days, date_of, day_of}

-- "47481 (2099-12-31)"
abbrev pub last_day : ℕ
last_day = 47481

abbrev pub date_text : Date → List ℕ
date_text d = padded 4 d.year ++ (45 ∷ (padded 2 d.month ++ (45 ∷ padded 2 d.day)))

unfoldable pub day_text : ℕ → List ℕ
day_text n = date_text (date_of n)

-- ---- and back

-- a date of the calendar, from 1970-01-01 to 2099-12-31
unfoldable pub is_date : Date → Bool
is_date d =
    (leb 1970 d.year && leb d.year 2099)
    && ((leb 1 d.month && leb d.month 12)
    && (leb 1 d.day && leb d.day (month_days (is_leap d.year) d.month)))

-- the numbers that stand in the places of year, month and day
abbrev pub date_in : List ℕ → Date
date_in text = date (number_in (take 4 text)) (number_in (take 2 (drop 5 text))) (number_in (take 2 (drop 8 text)))

-- the day of ten characters, or none where they are not the text of a date
unfoldable pub day_in : List ℕ → Option ℕ
day_in text = let d = date_in text in cond (is_date d && is_same_bytes (date_text d) text) (some (day_of d)) none

-- what the code answers, as the option that definitions chain
abbrev pub day_read : Rust.Option ℕ → Option ℕ
day_read (Rust.Some n) = some n
day_read Rust.None = none
