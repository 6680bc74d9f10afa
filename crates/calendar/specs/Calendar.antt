-- The Gregorian calendar, counted as "A day is a 32-bit count from 1970-01-01".
use Rattle.std.specs.Prelude.{ℕ, zero, suc, ◌+◌, ◌-◌, ◌%◌, Bool, cond, not, ◌&&◌, ◌||◌, eqb, ltb}
use Rattle.calendar.specs.declared.Date.{Date}

abbrev pub date : ℕ → ℕ → ℕ → Date
date y m d = record { year = y; month = m; day = d }

-- every fourth year is a leap year, but of the years that end a century only every fourth
abbrev pub is_leap : ℕ → Bool
is_leap y = eqb (y % 4) 0 && (not (eqb (y % 100) 0) || eqb (y % 400) 0)

-- the days of month m, 1 to 12, in a leap year or in another
unfoldable pub month_days : Bool → ℕ → ℕ
month_days leap m =
    cond (eqb m 2) (cond leap 29 28)
    (cond (eqb m 4 || (eqb m 6 || (eqb m 9 || eqb m 11))) 30 31)

-- the date of the next day
unfoldable pub next_date : Date → Date
next_date d =
    cond (ltb d.day (month_days (is_leap d.year) d.month)) (date d.year d.month (d.day + 1))
    (cond (ltb d.month 12) (date d.year (d.month + 1) 1)
    (date (d.year + 1) 1 1))

-- the date of day n: day 0 is 1970-01-01
unfoldable pub date_of : ℕ → Date
date_of zero = date 1970 1 1
date_of (suc n) = next_date (date_of n)

-- ---- and back

-- the days of the first n months of a year
unfoldable pub months_days : Bool → ℕ → ℕ
months_days leap zero = 0
months_days leap (suc n) = months_days leap n + month_days leap (suc n)

-- the days of the first n years from 1970 on
unfoldable pub years_days : ℕ → ℕ
years_days zero = 0
years_days (suc n) = years_days n + cond (is_leap (1970 + n)) 366 365

-- the number of the day of a date: the days of the years, months and days before it
unfoldable pub day_of : Date → ℕ
day_of d = years_days (d.year - 1970) + months_days (is_leap d.year) (d.month - 1) + (d.day - 1)
