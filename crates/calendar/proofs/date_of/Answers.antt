use mathlib.Core.Path.{ap, ◌∙◌}
use Rattle.calendar.specs.Calendar.{date_of}
use Rattle.calendar.proofs.Formulas.{year-found, day-of-year}
use Rattle.calendar.proofs.date_of.Goals as goal

pub returns : goal.returns
returns c = c.date_in_year.ensures ∙ ap date_of (day-of-year _ _ (year-found _ c.requires))
