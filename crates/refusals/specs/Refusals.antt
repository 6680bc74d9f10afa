-- "Otherwise the lowest number that applies is given, and only when it applies.": a refusal number, or 0 where no rule applies.
use Rattle.std.specs.Prelude.{ℕ, Bool, cond, eqb, ltb, Result, Ok, Err}
use Rattle.refusals.specs.declared.Refusal.{Refusal}
use Rattle.refusals.specs.declared.Refusal.TheVariants as R

-- the number where the rule applies
abbrev pub refuse_if : Bool → ℕ → ℕ
refuse_if applies n = cond applies n 0

infixr 50 ◌or_else◌
-- the first refusal number, or the second where the first is 0: the lowest, where the first is below the second
abbrev pub ◌or_else◌ : ℕ → ℕ → ℕ
◌or_else◌ a b = cond (eqb a 0) b a

-- the lower of two refusal numbers, whichever that is
unfoldable pub lowest : ℕ → ℕ → ℕ
lowest a b = cond (eqb a 0) b (cond (eqb b 0) a (cond (ltb a b) a b))

-- ---- what the code answers

-- "No.": the rows of the table, and those of 02
abbrev pub number_of : Refusal → ℕ
number_of R.Malformed = 1
number_of R.BadSheet = 2
number_of R.Halted = 3
number_of R.CyclePassed = 4
number_of R.CycleAhead = 5
number_of R.LastCycle = 6
number_of R.DayBack = 7
number_of R.NotSigned = 8
number_of R.SeatUnfit = 9
number_of R.NotNoticed = 10
number_of R.TableFull = 11
number_of R.QuorumLost = 12
number_of R.NotFound = 13
number_of R.TooLow = 14
number_of R.CannotVote = 15
number_of R.VotedOther = 16
number_of R.Locked = 17
number_of R.Silent = 18
number_of R.NotListed = 19
number_of R.Ended = 20
number_of R.RightNotHeld = 21
number_of R.NoRoom = 22
number_of R.NoPageRoom = 23
number_of R.BadRoster = 24
number_of R.NoRosterRoom = 25
number_of R.OutOfRange = 26
number_of R.BadShareNumber = 27
number_of R.TooShort = 28

-- the number that a verdict comes to
abbrev pub number_in : {A : Type 0} → Result A Refusal → ℕ
number_in (Ok x) = 0
number_in (Err r) = number_of r
