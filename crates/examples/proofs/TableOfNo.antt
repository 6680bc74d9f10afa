-- The examples of the table of no, as one computed check of the definitions.
use mathlib.Core.Path.{refl}
use Rattle.examples.specs.TableOfNo.{numbered, after_bad, TableOfNo}
use Rattle.examples.proofs.Compute.{calls-by-value}

pub table-of-no : TableOfNo
unfolding calls-by-value numbered after_bad
table-of-no = record {
  malformed = refl;
  sheet-malformed = refl;
  halted = refl;
  cycle-passed = refl;
  cycle-not-reached = refl;
  last-cycle = refl;
  day-before = refl;
  too-few-trustees = refl;
  seat-unfit = refl;
  no-ripe-proposal = refl;
  first-ripe-day = refl;
  last-ripe-day = refl;
  lapsed-proposal = refl;
  proposals-full = refl;
  none-lapsed = refl;
  one-lapsed = refl;
  logins-full = refl;
  quorum-above = refl;
  no-such-login = refl;
  last-day-to-cancel = refl;
  no-such-proposal = refl;
  life-not-above = refl;
  may-not-vote = refl;
  voted-otherwise = refl;
  locked = refl;
  silent = refl;
  not_listed = refl;
  ended = refl;
  right-not-held = refl;
  slice-too-short = refl;
  page-too-long = refl;
  full-page-too-long = refl;
}
