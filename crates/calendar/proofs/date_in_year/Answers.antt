use Rattle.calendar.proofs.Formulas.{month-found, date-in-year}
use Rattle.calendar.proofs.date_in_year.Goals as goal

pub returns : goal.returns
returns c =
    let p = c.requires in
    date-in-year _ _ _ _ p.0 p.1.0 (month-found _ _ _ c.stretched-at.ensures.value p.1.1)
