use mathlib.Core.Path.{◌≡◌, sym, ap, ◌∙◌}
use mathlib.Core.Bool.{cond}
use mathlib.Core.Option.{Option, none, some}
use Prim.Native.Nat.{ℕ}
use Rattle.calendar.specs.declared.Date.{Date}
use Rattle.calendar.specs.Calendar.{day_of}
use Rattle.calendar.specs.Text.{is_date, day_in}
use Rattle.calendar.proofs.Characters.{is-like, day-like, not-ten, not-like}
use Rattle.calendar.proofs.reading.day_in.Goals.{After-date_in-date}
use Rattle.calendar.proofs.reading.day_in.Goals as goal

-- what the characters past the second test are read as
abbrev day_if : Date → Option ℕ
day_if d = cond (is_date d) (some (day_of d)) none

read_as : (c : After-date_in-date) → day_in c.args.text.now ≡ day_if c.date_in-date.result
read_as c =
    let whole = c.in_ok-text.ensures.cases in
    let like = is-like c.args.text.now (rw whole.same at (sym c.if-not-is_date_like.ensures)) in
    day-like c.args.text.now whole.long like ∙ ap day_if (rw whole.same at (sym c.date_in-date.ensures))

pub returns-in_err-text : goal.returns-in_err-text
returns-in_err-text c = rw c.from_residual.ensures (sym (not-ten _ c.in_err-text.ensures.cases))

pub returns-then-not-is_date_like : goal.returns-then-not-is_date_like
returns-then-not-is_date_like c =
    sym (not-like c.args.text.now (rw c.in_ok-text.ensures.cases.same at (sym c.if-not-is_date_like.ensures)))

pub returns-then-not-is_date : goal.returns-then-not-is_date
returns-then-not-is_date c = rw (read_as (goal.at.returns-then-not-is_date c).After-date_in-date, sym c.if-not-is_date.ensures)

pub returns : goal.returns
returns c = rw (read_as (goal.at.returns c).After-date_in-date, sym c.if-not-is_date.ensures, c.day_of.ensures)
