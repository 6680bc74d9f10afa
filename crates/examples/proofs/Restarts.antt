-- The deliveries of a rejoin, as one computed check of the definitions.
use mathlib.Core.Path.{refl}
use Rattle.examples.specs.Restarts.{RestartExamples}
use Rattle.examples.proofs.Compute.{calls-by-value}

pub restart-examples : RestartExamples
unfolding calls-by-value
restart-examples = record {
  after-1 = refl;
  after-2 = refl;
  after-60 = refl;
  after-61 = refl;
  another-life = refl;
  no-vote = refl;
  voted = refl;
  level-1 = refl;
  level-2 = refl;
  raised = refl;
  used-up = refl;
  one-used = refl;
}
