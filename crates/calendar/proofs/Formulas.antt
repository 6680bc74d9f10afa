-- The formulas by which the code finds a year and a month, and the days before them.
use Prim.Native.Nat.{ℕ, zero, suc, ◌+◌, ◌-◌, ◌*◌, ◌/◌, ◌%◌, ◌≤◌, ◌<◌}
use native.Mathlib.Omega.{arith}
use native.Mathlib.Numerals.{add-one}
use mathlib.Core.Path.{◌≡◌, refl, ap, ◌∙◌}
use mathlib.Core.Bool.{Bool, true, false, cond, ◌&&◌, beq, and-eq-true_iff, false≢true}
use lib.Dec.{eqb, ltb, leb}
use borrow.Author.Tests.{ltb-true, leb-true, eqb-true, eqb-false, lt-ltb, le-ltb}
use Rattle.lists.proofs.Tests.{cond_cases, all_below, passes-below}
use Rattle.calendar.specs.declared.Date.{Date}
use Rattle.calendar.specs.Calendar.{date, is_leap, month_days, date_of, months_days, years_days, day_of}
use Rattle.calendar.specs.Code.{stretched}
use Rattle.calendar.specs.Text.{last_day, is_date}
use Rattle.calendar.proofs.Dates.{IsValid, date-found, is-valid}

-- ---- years

-- from 1970 to 2099 every fourth year is a leap year
fourth_is_leap : ℕ → Bool
fourth_is_leap k = beq (is_leap (1970 + k)) (eqb ((k + 2) % 4) 0)

all-fourth : all_below fourth_is_leap 130 ≡ true
unfolding all_below fourth_is_leap
all-fourth = refl

same_truth : (a b : Bool) → beq a b ≡ true → a ≡ b
same_truth true true e = refl
same_truth true false e = absurd (false≢true e)
same_truth false true e = absurd (false≢true e)
same_truth false false e = refl

pub fourth-is-leap : (k : ℕ) → k < 130 → is_leap (1970 + k) ≡ eqb ((k + 2) % 4) 0
unfolding fourth_is_leap
fourth-is-leap k h = same_truth _ _ (passes-below fourth_is_leap 130 all-fourth k h)

short-rule : (y : ℕ) → 1970 ≤ y → y ≤ 2099 → is_leap y ≡ eqb (y % 4) 0
short-rule y h l =
    let k : ℕ = y - 1970 in
    let e : 1970 + k ≡ y = omega arith in
    let m : (k + 2) % 4 ≡ y % 4 = omega arith in
    rw e at (fourth-is-leap k (omega arith)) ∙ ap (λ (n : ℕ). eqb n 0) m

-- the days of the first k years
abbrev pub year_start : ℕ → ℕ
year_start k = 365 * k + (k + 1) / 4

year-start : (k : ℕ) → k ≤ 130 → years_days k ≡ year_start k
unfolding years_days
year-start zero h = refl
year-start (suc k) h =
    let s = year-start k (omega arith) in
    rw (fourth-is-leap k (omega arith)) (cond_cases (λ (n : ℕ). years_days k + n ≡ year_start (suc k)) (eqb ((k + 2) % 4) 0)
    (λ t. omega (arith, eqb-true ((k + 2) % 4) 0 t))
    (λ t. omega (arith, eqb-false ((k + 2) % 4) 0 t)))

-- day n lies in year k
pub record InYear (n k : ℕ) : Type 0 where
  pub year : k < 130
  pub start : year_start k ≤ n
  pub day : n - year_start k < cond (eqb ((k + 2) % 4) 0) 366 365

-- a day in a year that is no leap year
in-common-year : (n k : ℕ) → 4 * n + 2 < 1461 * k + 1461 → ((k + 2) % 4 ≡ 0 → ⊥) → n < year_start k + 365
in-common-year n k h r = let m : (k + 1) % 4 ≤ 2 = omega arith in omega arith

pub year-found : (n : ℕ) → n ≤ last_day → InYear n ((4 * n + 2) / 1461)
year-found n h =
    let k : ℕ = (4 * n + 2) / 1461 in
    let s : year_start k ≤ n = omega arith in
    record {
      year = omega arith;
      start = s;
      day =
          cond_cases (λ (l : ℕ). n - year_start k < l) (eqb ((k + 2) % 4) 0) (λ t. omega (arith, eqb-true ((k + 2) % 4) 0 t))
          (λ t. omega (arith, in-common-year n k (omega arith) (eqb-false ((k + 2) % 4) 0 t)));
    }

pub day-of-year : (n k : ℕ) → InYear n k → years_days (1970 + k - 1970) + (n - year_start k) ≡ n
day-of-year n k t =
    let h = t.year in
    let e : 1970 + k - 1970 ≡ k = omega arith in
    rw e (omega (arith, year-start k (omega arith), t.start))

-- ---- months

-- the month of day d of a year whose February has 30 days, and the first day of a month, all counted from 0
abbrev pub month_at : ℕ → ℕ
month_at d = (12 * d + 6) / 367

abbrev pub month_start : ℕ → ℕ
month_start m = (367 * m + 5) / 12

-- day n of a year lies in the month that is found for it as day d
pub record InMonth (leap : Bool) (n d : ℕ) : Type 0 where
  pub month : month_at d < 12
  pub start : month_start (month_at d) ≤ d
  pub day : d - month_start (month_at d) < month_days leap (suc (month_at d))
  pub number : months_days leap (month_at d) + (d - month_start (month_at d)) ≡ n

-- and so does every day of both kinds of years
is_in_month : Bool → ℕ → Bool
is_in_month leap n =
    let d = stretched leap n in
    let m = month_at d in
    ltb m 12
    && (leb (month_start m) d && (ltb (d - month_start m) (month_days leap (suc m)) && eqb (months_days leap m + (d - month_start m)) n))

all-in-month : (leap : Bool) → all_below (is_in_month leap) (cond leap 366 365) ≡ true
unfolding all_below is_in_month stretched month_days months_days
all-in-month true = refl
all-in-month false = refl

pub month-found : (leap : Bool) (n d : ℕ) → d ≡ stretched leap n → n < cond leap 366 365 → InMonth leap n d
unfolding is_in_month
month-found leap n d e h =
    let t = simp and-eq-true_iff at (passes-below (is_in_month leap) (cond leap 366 365) (all-in-month leap) n h) in
    rw e (omega (arith, ltb-true, leb-true, eqb-true))

-- the date with this year, this month and this day of the month
pub date-in-year : (y n d : ℕ) (leap : Bool) → 1970 ≤ y → leap ≡ is_leap y → InMonth leap n d
    → date y (month_at d + 1) (d - month_start (month_at d) + 1) ≡ date_of (years_days (y - 1970) + n)
unfolding day_of
date-in-year y n d leap h e t =
    let m : ℕ = month_at d in
    let j : ℕ = d - month_start m in
    let a : m + 1 - 1 ≡ m = omega arith in
    let b : j + 1 - 1 ≡ j = omega arith in
    let l : j + 1 ≤ month_days (is_leap y) (m + 1) = rw (← e, add-one m) (omega (arith, t.day)) in
    date-found (years_days (y - 1970) + n) (date y (m + 1) (j + 1)) (omega arith) (rw (a, b, ← e) (omega (arith, t.number)))

-- ---- and back

-- the days of a year before a month, counted from 0: what February lacks of 30 days counts from March on
abbrev days_before : Bool → ℕ → ℕ
days_before leap m = cond (ltb m 2) (month_start m) (cond leap (month_start m - 1) (month_start m - 2))

is_days_before : Bool → ℕ → Bool
is_days_before leap m = eqb (months_days leap m) (days_before leap m)

all-days-before : (leap : Bool) → all_below (is_days_before leap) 12 ≡ true
unfolding all_below is_days_before month_days months_days
all-days-before true = refl
all-days-before false = refl

days-before : (leap : Bool) (m : ℕ) → m < 12 → months_days leap m ≡ days_before leap m
unfolding is_days_before
days-before leap m h = eqb-true _ _ (passes-below (is_days_before leap) 12 (all-days-before leap) m h)

pub winter_before : (leap : Bool) (m : ℕ) → m < 2 → months_days leap m ≡ month_start m
winter_before leap m h = days-before leap m (omega arith) ∙ rw (lt-ltb m 2 h)

pub leap_before : (m : ℕ) → 2 ≤ m → m < 12 → months_days true m ≡ month_start m - 1
leap_before m h l = days-before true m l ∙ rw (le-ltb m 2 h)

pub common_before : (m : ℕ) → 2 ≤ m → m < 12 → months_days false m ≡ month_start m - 2
common_before m h l = days-before false m l ∙ rw (le-ltb m 2 h)

months-at-most : (leap : Bool) (m : ℕ) → m < 12 → months_days leap m ≤ 366
months-at-most leap m h =
    rw (days-before leap m h) (cond_cases (λ (n : ℕ). n ≤ 366) (ltb m 2) (λ _. omega arith)
    (λ _. cond_cases (λ (n : ℕ). n ≤ 366) leap (λ _. omega arith) (λ _. omega arith)))

-- the number of the day of a date, by the short rule
pub record Counted (d : Date) : Type 0 where
  pub valid : IsValid d
  pub until : d.year ≤ 2099
  pub before : months_days (eqb (d.year % 4) 0) (d.month - 1) ≤ 366
  pub number : day_of d ≡ year_start (d.year - 1970) + months_days (eqb (d.year % 4) 0) (d.month - 1) + (d.day - 1)

pub counted : (d : Date) → is_date d ≡ true → Counted d
unfolding day_of
counted d e =
    let t = is-valid d e in
    let m : d.month - 1 < 12 = omega arith in
    record {
      valid = t.0;
      until = t.1;
      before = months-at-most _ _ m;
      number = rw (year-start (d.year - 1970) (omega arith), short-rule d.year t.0.since t.1);
    }

-- the test of a date, by the short rule
pub is-date : (y m j : ℕ) → let last = month_days (eqb (y % 4) 0) m in
    ((leb 1970 y && leb y 2099) && ((leb 1 m && leb m 12) && (leb 1 j && leb j last))) ≡ is_date (date y m j)
unfolding is_date
is-date y m j = at (leb 1970 y) (leb y 2099) refl refl
  where
    at : (a b : Bool) → leb 1970 y ≡ a → leb y 2099 ≡ b → let last = month_days (eqb (y % 4) 0) m in
        ((leb 1970 y && leb y 2099) && ((leb 1 m && leb m 12) && (leb 1 j && leb j last))) ≡ is_date (date y m j)
    at true true h l = rw (short-rule y (leb-true 1970 y h) (leb-true y 2099 l))
    at true false h l = rw (h, l)
    at false b h l = rw h
