use mathlib.Core.Path.{sym}
use Rattle.calendar.proofs.Characters.{is-like, date-at}
use Rattle.calendar.proofs.reading.date_in.Goals as goal

pub two_digits-day-requires : goal.two_digits-day-requires
two_digits-day-requires c = (is-like _ c.requires).day

pub returns : goal.returns
returns c =
    let s = date-at _ c.told-text (is-like _ c.requires) in
    rw (
      c.date_by.ensures,
      c.two_digits-day.ensures,
      c.two_digits-month.ensures,
      c.two_digits-year.ensures,
      c.two_digits-hundred.ensures,
    ) (sym s)
