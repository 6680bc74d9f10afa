-- The grants into a full list, as one computed check of the definitions.
use mathlib.Core.Path.{refl}
use Rattle.examples.specs.TableOfNo.{numbered}
use Rattle.examples.specs.Evictions.{EvictionExamples}
use Rattle.examples.proofs.Compute.{calls-by-value}

pub eviction-examples : EvictionExamples
unfolding calls-by-value numbered
eviction-examples = record {
  not-over = refl;
  over = refl;
  list = refl;
  first-row = refl;
  last_row = refl;
  earlier-day = refl;
  later-day = refl;
  smaller = refl;
  greater = refl;
  replaced = refl;
  unused = refl;
  full-first = refl;
  ended-before = refl;
  voted = refl;
  kept-by-vote = refl;
  not_listed = refl;
  not-ended = refl;
  full-again = refl;
  granted-again = refl;
}
