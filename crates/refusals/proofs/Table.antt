-- The rows of the table, in the order of their numbers.
use mathlib.Core.Logic.{◌≢◌}
use mathlib.Core.Path.{◌≡◌, refl}
use Prim.Native.Nat.{◌+◌}
use mathlib.Core.Bool.{false, cond}
use lib.Dec.{eqb, ltb}
use native.Mathlib.Omega.{arith}
use Rattle.std.proofs.lemmas.Bool.{ne_eqb}
use denote.Enum.Declared.{tag_of}
use Rattle.refusals.specs.contracts.Refusal.{the_type}
use Rattle.refusals.specs.declared.Refusal.{Refusal}
use Rattle.refusals.specs.declared.Refusal.TheVariants as R
use Rattle.std.specs.Prelude.{Result, Ok, Err}
use Rattle.refusals.specs.Refusals.{number_of, number_in, lowest}

pub numbered : (r : Refusal) → tag_of the_type r + 1 ≡ number_of r
numbered R.Malformed = refl
numbered R.BadSheet = refl
numbered R.Halted = refl
numbered R.CyclePassed = refl
numbered R.CycleAhead = refl
numbered R.LastCycle = refl
numbered R.DayBack = refl
numbered R.NotSigned = refl
numbered R.SeatUnfit = refl
numbered R.NotNoticed = refl
numbered R.TableFull = refl
numbered R.QuorumLost = refl
numbered R.NotFound = refl
numbered R.TooLow = refl
numbered R.CannotVote = refl
numbered R.VotedOther = refl
numbered R.Locked = refl
numbered R.Silent = refl
numbered R.NotListed = refl
numbered R.Ended = refl
numbered R.RightNotHeld = refl
numbered R.NoRoom = refl
numbered R.NoPageRoom = refl
numbered R.BadRoster = refl
numbered R.NoRosterRoom = refl
numbered R.OutOfRange = refl
numbered R.BadShareNumber = refl
numbered R.TooShort = refl

-- No row has the number 0, which stands for none.
pub not-none : (r : Refusal) → eqb (number_of r) 0 ≡ false
not-none r = let n = numbered r in ne_eqb (number_of r) 0 (λ e. omega (arith, n, e))

-- The lower of the numbers of two rows.
pub lower : (x y : Refusal) → lowest (number_of x) (number_of y) ≡ cond (ltb (number_of x) (number_of y)) (number_of x) (number_of y)
unfolding lowest
lower x y = rw (not-none x) (rw (not-none y) refl)

-- A row's number where no other refuses.
pub alone : (x : Refusal) → lowest (number_of x) 0 ≡ number_of x
unfolding lowest
alone x = rw (not-none x) refl

-- the same as a negation
pub refuses : (r : Refusal) → number_of r ≢ 0
refuses r e = let n = numbered r in omega (arith, n, e)

-- A verdict that does not refuse has none.
pub passes : {A : Type 0} (v : Result A Refusal) → ((r : Refusal) → v ≡ Err r → ⊥) → number_in v ≡ 0
passes (Ok x) f = refl
passes (Err r) f = absurd (f r refl)
