-- The text of a day is read as that day, and what is read is the text of its day.
use Prim.Native.Nat.{ℕ}
use native.Mathlib.Omega.{arith}
use mathlib.Core.Path.{◌≡◌, refl, sym, ap, ◌∙◌}
use mathlib.Core.Bool.{true, cond, ◌&&◌, and-eq-true_iff}
use mathlib.Core.List.{List}
use mathlib.Core.Option.{Option, none, some}
use lib.ListN.{length}
use Rattle.lists.proofs.Tests.{cond_cases, clash}
use Rattle.binary.specs.Number.{is_same_bytes}
use Rattle.binary.proofs.Same.{same_bytes, bytes_same}
use Rattle.decimal.specs.Decimal.{padded}
use Rattle.decimal.proofs.Texts.{padded-read-back}
use Rattle.calendar.specs.declared.Date.{Date}
use Rattle.calendar.specs.Calendar.{date_of, day_of, is_leap}
use Rattle.calendar.specs.Text.{date_text, day_text, is_date, date_in, day_in}
use Rattle.calendar.specs.Claims.{DayReadBack, HasDay, TextWrittenBack}
use Rattle.calendar.proofs.Dates.{is-valid, month-long, day-of-date, dates-of-days, date-of-day}

length-day_text : (n : ℕ) → length (day_text n) ≡ 10
unfolding day_text padded
length-day_text n = refl

date-read-back : (d : Date) → is_date d ≡ true → date_in (date_text d) ≡ d
unfolding padded
date-read-back d e =
    let t = is-valid d e in
    let l = month-long (is_leap d.year) d.month in
    let y = padded-read-back 4 d.year (omega arith) in
    let m = padded-read-back 2 d.month (omega arith) in
    let j = padded-read-back 2 d.day (omega arith) in
    (λ i. record { year = y.1 i; month = m.1 i; day = j.1 i })

read_as : (d e : Date) → e ≡ d → is_date d ≡ true → cond (is_date e && is_same_bytes (date_text e) (date_text d)) (some (day_of e)) none ≡ some (day_of d)
read_as d e p t = rw (p, t, same_bytes (date_text d))

pub day-read-back : DayReadBack
unfolding day_in day_text
day-read-back n h =
    let d = date_of n in
    let t = dates-of-days n h in
    record { size = length-day_text n; read = read_as d (date_in (date_text d)) (date-read-back d t) t ∙ ap some (day-of-date n) }

written_as : (text : List ℕ) (n : ℕ) (d : Date) → (is_date d && is_same_bytes (date_text d) text) ≡ true → day_of d ≡ n → HasDay text n
unfolding day_text
written_as text n d t e =
    let u = (and-eq-true_iff (is_date d) (is_same_bytes (date_text d) text)).0 t in
    let q = date-of-day d u.0 in
    rw (← e) (record { within = q.within; written = ap date_text q.dated ∙ bytes_same _ _ u.1 })

pub text-written-back : TextWrittenBack
unfolding day_in
text-written-back text n e =
    let d = date_in text in
    cond_cases (λ (o : Option ℕ). o ≡ some n → HasDay text n) (is_date d && is_same_bytes (date_text d) text)
    (λ t p. written_as text n d t (cc)) (λ t p. clash (cc)) e

pub day-length : (text : List ℕ) (n : ℕ) → day_in text ≡ some n → length text ≡ 10
day-length text n e = ap length (sym (text-written-back text n e).written) ∙ length-day_text n
