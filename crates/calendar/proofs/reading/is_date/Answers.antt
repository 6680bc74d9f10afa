use Rattle.calendar.proofs.Formulas.{is-date}
use Rattle.calendar.proofs.Ranges.{in_range}
use Rattle.calendar.proofs.reading.is_date.Goals as goal

pub returns : goal.returns
returns c =
    let d = c.args.date in
    let y = in_range c.new.result _ _ d.year c.new.ensures.start c.new.ensures.end c.new.ensures.exhausted in
    let m = in_range c.new-2.result _ _ d.month c.new-2.ensures.start c.new-2.ensures.end c.new-2.ensures.exhausted in
    let j = in_range c.new-3.result _ _ d.day c.new-3.ensures.start c.new-3.ensures.end c.new-3.ensures.exhausted in
    rw (c.contains-year.ensures.value, y, c.contains-month.ensures.value, m, c.contains-day.ensures.value, j, c.month_days-last.ensures) (is-date _ _ _)
