-- The deliveries over lapsed proposals, as one computed check of the definitions.
use mathlib.Core.Path.{refl}
use Rattle.examples.specs.TableOfNo.{numbered}
use Rattle.examples.specs.Lapse.{LapseExamples}
use Rattle.examples.proofs.Compute.{calls-by-value}

pub lapse-examples : LapseExamples
unfolding calls-by-value numbered
lapse-examples = record {
  one-lapsed = refl;
  all-lapsed = refl;
  one_left = refl;
  granted = refl;
  none_left = refl;
  voted = refl;
  kept-by-vote = refl;
  refused = refl;
  kept-by-refusal = refl;
  removed = refl;
  both-gone = refl;
}
