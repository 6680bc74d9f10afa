-- The examples of the access page, as one computed check of the definitions.
use mathlib.Core.Path.{refl}
use Rattle.calendar.specs.Calendar.{months_days, years_days, day_of}
use Rattle.examples.specs.TableOfNo.{numbered}
use Rattle.examples.specs.AccessPage.{PageExamples}
use Rattle.examples.proofs.Compute.{calls-by-value}

pub page-examples : PageExamples
unfolding calls-by-value numbered months_days years_days day_of
page-examples = record {
  line-501 = refl;
  tail-kept = refl;
  exact = refl;
  one_line = refl;
  full-list = refl;
  empty-list = refl;
  words = refl;
  dates = refl;
  last-date = refl;
  after_last = refl;
}
