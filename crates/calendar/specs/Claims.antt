-- Days, dates and texts: each has one of the others.
use Rattle.std.specs.Prelude.{◌≡◌, true, List, ℕ, ◌≤◌, length}
use Rattle.std.proofs.Math.Option.{some}
use Rattle.calendar.specs.declared.Date.{Date}
use Rattle.calendar.specs.Calendar.{date_of, day_of}
use Rattle.calendar.specs.Text.{last_day, is_date, day_text, day_in}

-- Every day has a date, whose number is that day.
abbrev pub DayOfDate : Type 0
DayOfDate = (n : ℕ) → day_of (date_of n) ≡ n

-- The dates up to 2099-12-31 are those of the days up to 47481.
abbrev pub DatesOfDays : Type 0
DatesOfDays = (n : ℕ) → n ≤ last_day → is_date (date_of n) ≡ true

-- Every date of the calendar is that of a day.
pub record IsOfDay (d : Date) : Type 0 where
  pub within : day_of d ≤ last_day
  pub dated : date_of (day_of d) ≡ d

abbrev pub DateOfDay : Type 0
DateOfDay = (d : Date) → is_date d ≡ true → IsOfDay d

-- Every day up to 47481 has one text, of ten characters, which is read as that day.
pub record HasText (n : ℕ) : Type 0 where
  pub size : length (day_text n) ≡ 10
  pub read : day_in (day_text n) ≡ some n

abbrev pub DayReadBack : Type 0
DayReadBack = (n : ℕ) → n ≤ last_day → HasText n

-- Every text that is read has one day, up to 47481, whose text it is.
pub record HasDay (text : List ℕ) (n : ℕ) : Type 0 where
  pub within : n ≤ last_day
  pub written : day_text n ≡ text

abbrev pub TextWrittenBack : Type 0
TextWrittenBack = (text : List ℕ) (n : ℕ) → day_in text ≡ some n → HasDay text n
