-- What is given, and into which slices.
use Prim.Native.Nat.{ℕ, ◌≤◌, ◌<◌}
use mathlib.Core.Path.{◌≡◌}
use mathlib.Core.List.{List}
use lib.Dec.{leb}
use lib.ListN.{length}
use borrow.Author.Tests.{leb-true, leb-false, le-leb, lt-leb}
use Rattle.std.specs.Prelude.{Ok}
use Rattle.refusals.specs.declared.Refusal.TheVariants.{NoRosterRoom}
use Rattle.lists.proofs.Tests.{cond_cases}
use Rattle.binary.specs.Number.{overwrite}
use Rattle.binary.proofs.Splices.{splice-overwrite}
use Rattle.roster.specs.Calls.{Outcome, refused, give}

module _ (n : ℕ) (bytes out : List ℕ) where
  pub no_room : length out < length bytes → give n bytes out ≡ refused NoRosterRoom out
  unfolding give
  no_room l = rw (lt-leb (length bytes) (length out) l)

  pub fits : length bytes ≤ length out → give n bytes out ≡ record { answer = Ok n; slice = overwrite bytes out }
  unfolding give
  fits l = rw (le-leb (length bytes) (length out) l)

  -- What holds in both cases holds of what is answered.
  pub give-cases : (P : Outcome → Type 0) → (length bytes ≤ length out → P (record { answer = Ok n; slice = overwrite bytes out }))
      → (length out < length bytes → P (refused NoRosterRoom out)) → P (give n bytes out)
  unfolding give
  give-cases P f g = cond_cases P (leb (length bytes) (length out)) (λ t. f (leb-true _ _ t)) (λ t. g (leb-false _ _ t))

-- what a slice holds after a line is given, or refused
pub ruleset giving = (no_room, fits, splice-overwrite)
