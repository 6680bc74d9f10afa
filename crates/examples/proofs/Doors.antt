-- The queries at four doors, as one computed check of the definitions.
use mathlib.Core.Path.{refl}
use Rattle.examples.specs.Doors.{DoorExamples}
use Rattle.examples.proofs.Compute.{calls-by-value}

pub door-examples : DoorExamples
unfolding calls-by-value
door-examples = record {
  rest-kept = λ n qb. refl;
  door-3 = refl;
  door-4 = refl;
  count-above = refl;
  locked = refl;
  missed = refl;
  opened = refl;
  both-missed = refl;
  both-opened = refl;
  performed = refl;
}
