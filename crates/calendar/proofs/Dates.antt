-- Dates and their numbers: each day has one valid date, and each valid date is that of one day.
use Prim.Native.Nat.{ℕ, zero, suc, ◌+◌, ◌-◌, ◌≤◌, ◌<◌}
use native.Mathlib.Omega.{arith}
use mathlib.Core.Path.{◌≡◌, refl, sym, ap, subst, ◌∙◌}
use mathlib.Core.Bool.{Bool, true, false, cond, ◌||◌, and-eq-true_iff}
use lib.Dec.{eqb, ltb}
use borrow.Author.Tests.{ltb-true, ltb-false, leb-true, le-leb}
use Rattle.lists.proofs.Tests.{cond_cases}
use Rattle.calendar.specs.declared.Date.{Date}
use Rattle.calendar.specs.Calendar.{date, is_leap, month_days, next_date, date_of, months_days, years_days, day_of}
use Rattle.calendar.specs.Text.{last_day, is_date}
use Rattle.calendar.specs.Claims.{DayOfDate, DatesOfDays, DateOfDay}
use Rattle.calendar.proofs.Rising.{rises, not-past}

abbrev leap : Date → Bool
leap d = is_leap d.year

-- the last day of the month
abbrev last : Date → ℕ
last d = month_days (leap d) d.month

-- the day of the year, counted from 0
abbrev day_of_year : Date → ℕ
day_of_year d = months_days (leap d) (d.month - 1) + (d.day - 1)

-- A date of the calendar from 1970-01-01 on.
pub record IsValid (d : Date) : Type 0 where
  pub since : 1970 ≤ d.year
  pub month-from : 1 ≤ d.month
  pub month-to : d.month ≤ 12
  pub day-from : 1 ≤ d.day
  pub day-to : d.day ≤ last d

-- The date of day n.
record IsDateOf (n : ℕ) (d : Date) : Type 0 where
  valid : IsValid d
  number : day_of d ≡ n

-- ---- months and years

abbrev Long : ℕ → Type 0
Long n = (28 ≤ n) × (n ≤ 31)

pub month-long : (leap : Bool) (m : ℕ) → Long (month_days leap m)
unfolding month_days
month-long leap m =
    cond_cases Long (eqb m 2)
    (λ _. cond_cases Long leap {x = 29} {y = 28} (λ _. omega arith) (λ _. omega arith))
    (λ _. cond_cases Long (eqb m 4 || (eqb m 6 || (eqb m 9 || eqb m 11))) {x = 30} {y = 31} (λ _. omega arith) (λ _. omega arith))

months-up : (leap : Bool) (n : ℕ) → months_days leap n ≤ months_days leap (suc n)
unfolding months_days
months-up leap n = omega arith

months-step : (leap : Bool) (m : ℕ) → 1 ≤ m → months_days leap m ≡ months_days leap (m - 1) + month_days leap m
unfolding months_days
months-step leap zero h = absurd (omega arith)
months-step leap (suc m) h = let e : suc m - 1 ≡ m = omega arith in rw e

year-long : (leap : Bool) → months_days leap 12 ≡ cond leap 366 365
unfolding months_days month_days
year-long true = refl
year-long false = refl

years-up : (n : ℕ) → years_days n ≤ years_days (suc n)
unfolding years_days
years-up n = omega arith

years-step : (y : ℕ) → 1970 ≤ y → years_days (suc (y - 1970)) ≡ years_days (y - 1970) + cond (is_leap y) 366 365
unfolding years_days
years-step y h = let e : 1970 + (y - 1970) ≡ y = omega arith in rw e

all-years : years_days 130 ≡ suc last_day
unfolding years_days
all-years = refl

-- ---- from day to date

-- The next date is that of the next day: in the same month, on the first day of the next month, or on that of the next year.
module _ (d : Date) (h : IsValid d) where
  before-next : months_days (leap d) d.month ≡ months_days (leap d) (d.month - 1) + last d
  before-next = months-step (leap d) d.month h.month-from

  next-day : d.day < last d → IsDateOf (suc (day_of d)) (date d.year d.month (d.day + 1))
  unfolding day_of
  next-day t = record { valid = omega arith; number = omega arith }

  next-month : last d ≤ d.day → d.month < 12 → IsDateOf (suc (day_of d)) (date d.year (d.month + 1) 1)
  unfolding day_of
  next-month t u =
      let e : d.month + 1 - 1 ≡ d.month = omega arith in
      record { valid = omega (arith, month-long (leap d) (d.month + 1)); number = rw e (omega (arith, before-next)) }

  next-year : last d ≤ d.day → 12 ≤ d.month → IsDateOf (suc (day_of d)) (date (d.year + 1) 1 1)
  unfolding day_of months_days
  next-year t u =
      let e : d.year + 1 - 1970 ≡ suc (d.year - 1970) = omega arith in
      let m : d.month ≡ 12 = omega arith in
      let l : months_days (leap d) d.month ≡ cond (leap d) 366 365 = ap (months_days (leap d)) m ∙ year-long (leap d) in
      record {
        valid = omega (arith, month-long (is_leap (d.year + 1)) 1);
        number = rw e (omega (arith, before-next, years-step d.year h.since));
      }

  next-date : IsDateOf (suc (day_of d)) (next_date d)
  unfolding next_date
  next-date =
      cond_cases (IsDateOf (suc (day_of d))) (ltb d.day (last d)) (λ t. next-day (ltb-true _ _ t))
      (λ t. cond_cases (IsDateOf (suc (day_of d))) (ltb d.month 12)
      (λ u. next-month (ltb-false _ _ t) (ltb-true _ _ u))
      (λ u. next-year (ltb-false _ _ t) (ltb-false _ _ u)))

dated : (n : ℕ) → IsDateOf n (date_of n)
unfolding date_of day_of years_days months_days
dated zero = record { valid = omega (arith, month-long (is_leap 1970) 1); number = refl }
dated (suc n) =
    let h = dated n in
    subst (λ (k : ℕ). IsDateOf (suc k) (next_date (date_of n))) h.number (next-date (date_of n) h.valid)

pub day-of-date : DayOfDate
day-of-date n = (dated n).number

-- ---- from date to day

-- A day lies in its month, and in its year.
in-month : (d : Date) → IsValid d → day_of_year d < months_days (leap d) d.month
in-month d h = omega (arith, before-next d h)

in-year : (d : Date) → IsValid d → (years_days (d.year - 1970) ≤ day_of d) × (day_of d < years_days (suc (d.year - 1970)))
unfolding day_of
in-year d h =
    let a = rises (months_days (leap d)) (months-up (leap d)) d.month 12 h.month-to in
    omega (arith, in-month d h, year-long (leap d), years-step d.year h.since)

-- Two valid dates with one number are the same.
not-past-year : (d e : Date) → IsValid d → IsValid e → day_of d ≡ day_of e → d.year ≤ e.year
not-past-year d e h k p =
    let a = in-year d h in
    let b = in-year e k in
    let q = not-past years_days years-up (d.year - 1970) (e.year - 1970) (day_of d) a.0 (omega arith) in
    omega arith

not-past-month : (y m j m' j' : ℕ) → IsValid (date y m j) → IsValid (date y m' j') → day_of (date y m j) ≡ day_of (date y m' j') → m ≤ m'
unfolding day_of
not-past-month y m j m' j' h k p =
    let b = in-month (date y m' j') k in
    let e : suc (m' - 1) ≡ m' = omega arith in
    let q = not-past (months_days (is_leap y)) (months-up (is_leap y)) (m - 1) (m' - 1) (day_of_year (date y m j)) (omega arith) (rw e (omega arith)) in
    omega arith

same-date : (d e : Date) → IsValid d → IsValid e → day_of d ≡ day_of e → d ≡ e
unfolding day_of
same-date d e h k p =
    let y : d.year ≡ e.year = omega (arith, not-past-year d e h k p, not-past-year e d k h (sym p)) in
    let k' : IsValid (date d.year e.month e.day) = subst (λ (z : ℕ). IsValid (date z e.month e.day)) (sym y) k in
    let p' : day_of d ≡ day_of (date d.year e.month e.day) = p ∙ ap (λ (z : ℕ). day_of (date z e.month e.day)) (sym y) in
    let a = not-past-month d.year d.month d.day e.month e.day h k' p' in
    let b = not-past-month d.year e.month e.day d.month d.day k' h (sym p') in
    let m : d.month ≡ e.month = omega arith in
    let q : day_of d ≡ day_of (date d.year d.month e.day) = p' ∙ ap (λ (z : ℕ). day_of (date d.year z e.day)) (sym m) in
    let j : d.day ≡ e.day = omega arith in
    (λ i. record { year = y i; month = m i; day = j i })

-- So a valid date is that of the day whose number it has.
pub date-found : (n : ℕ) (d : Date) → IsValid d → day_of d ≡ n → d ≡ date_of n
date-found n d h e = same-date d (date_of n) h (dated n).valid (e ∙ sym (day-of-date n))

-- ---- up to 2099-12-31

pub is-valid : (d : Date) → is_date d ≡ true → IsValid d × (d.year ≤ 2099)
unfolding is_date
is-valid d e = let t = simp and-eq-true_iff at e in omega (arith, leb-true)

valid-is : (d : Date) → IsValid d → d.year ≤ 2099 → is_date d ≡ true
unfolding is_date
valid-is d h l =
    rw (
      le-leb _ _ h.since,
      le-leb _ _ l,
      le-leb _ _ h.month-from,
      le-leb _ _ h.month-to,
      le-leb _ _ h.day-from,
      le-leb _ _ h.day-to,
    )

pub dates-of-days : DatesOfDays
dates-of-days n h =
    let d = date_of n in
    let t = dated n in
    let a = in-year d t.valid in
    let q = not-past years_days years-up (d.year - 1970) 129 n (omega (arith, t.number)) (omega (arith, all-years)) in
    valid-is d t.valid (omega arith)

pub date-of-day : DateOfDay
date-of-day d e =
    let t = is-valid d e in
    let a = in-year d t.0 in
    let s = t.0.since in
    let r = rises years_days years-up (suc (d.year - 1970)) 130 (omega (arith, t.1)) in
    record { within = omega (arith, all-years); dated = sym (date-found (day_of d) d t.0 refl) }
