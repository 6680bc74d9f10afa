-- The deliveries under notices that a park has set, as one computed check of the definitions.
use mathlib.Core.Path.{refl}
use Rattle.examples.specs.Notices.{NoticeExamples}
use Rattle.examples.proofs.Compute.{calls-by-value}

pub notice-examples : NoticeExamples
unfolding calls-by-value
notice-examples = record {
  ordinary-less = refl;
  ordinary = refl;
  restart-less = refl;
  restart = refl;
  valid = refl;
  lapsed = refl;
  shortened-early = refl;
  shortened = refl;
  restart-set = refl;
  both-kept = refl;
  other-bytes = refl;
  above-30 = refl;
  proposed-above-30 = refl;
  lengthened = refl;
  same = refl;
  grown = refl;
  written = refl;
  same-node = refl;
  zero-notice = refl;
  notice-of-31 = refl;
}
