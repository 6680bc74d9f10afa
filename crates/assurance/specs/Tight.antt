-- The double-voter bound of demand 3 can't be loosened by one: for each margin m a computed history in which exactly 2m+1 seats count on both sheets,
-- and two nodes at one cycle differ.
use Rattle.std.specs.Prelude.{◌≡◌, ◌≢◌, List, [], ◌++◌, ◌∷◌, map, ℕ, zero, suc, ◌+◌, ◌*◌, ◌-◌, ◌≤◌, replicate}
use Rattle.state.specs.declared.State.{State}
use Rattle.state.specs.Limits.{proposal_rows, login_rows, most_margin}
use Rattle.state.specs.Time.{cycle, day}
use Rattle.state.specs.Seats.{present, free_seat}
use Rattle.state.specs.Rows.{no_proposal}
use Rattle.state.specs.Rows.{no_login}
use Rattle.records.specs.Sheet.{Row, rows_of, counted_on_both}
use Rattle.checkpoint.specs.Format.{earlier_notices}
use Rattle.checkpoint.specs.Checkpoint.{checkpoint_bytes}
use Rattle.examples.specs.Records.{grant_to}
use Rattle.agreement.specs.History.{by_value, through_c, start, deliver, History, moments, answer, accepted}
use Rattle.agreement.specs.Claims.{PerformedIn, Park, Agreement}
use Rattle.agreement.specs.NotIdle.{room}
use Rattle.records.specs.Sheet.{sheet_of}

-- "Commissioned at cycle 1, day 100, one trustee per level", k=1, S=30, notices 7 and 2, lists empty; here with margin m, and seats 0 to 2m present at life 1. The
-- quorum is then m+1+m, which is all of them.
abbrev pub first_state : ℕ → State
first_state m = record {
  cycle = cycle 1;
  day = day 100;
  trustees1 = 1;
  trustees2 = 1;
  minima = record { margin = m; least = 1; silence = 30; notices = earlier_notices };
  seats = replicate (2 * m + 1) (record { standing = present; life = 1 }) ++ replicate (31 - 2 * m) free_seat;
  proposals = replicate proposal_rows no_proposal;
  logins = replicate login_rows no_login;
}

abbrev pub first : ℕ → List ℕ
first m = checkpoint_bytes (first_state m)

-- a seat under life 1
abbrev pub start_seat : ℕ → List ℕ
start_seat i = 7 ∷ 0 ∷ 19 ∷ 0 ∷ i ∷ 1 ∷ 0 ∷ 0 ∷ 0 ∷ []

-- rows of the seats below n under life 1
unfoldable pub rows_below : ℕ → List Row
rows_below zero = []
rows_below (suc n) = rows_below n ++ (record { seat = n; life = 1 } ∷ [])

-- a sheet of the rows of all present seats, with level-1 mask 1
abbrev pub full_sheet : ℕ → List ℕ
full_sheet m = sheet_of 1 0 (rows_below (2 * m + 1))

-- Two hosts start from the first checkpoint, at seats 0 and 2m, and each performs another announcement in cycle 1, with that sheet: every present
-- seat is a double voter.
abbrev pub divided : ℕ → History
divided m =
    start (by_value 0) (first m) (start_seat 0) []
    ∷ start (through_c 1) (first m) (start_seat (2 * m)) room
    ∷ deliver (by_value 0) (grant_to 120) (full_sheet m) []
    ∷ deliver (through_c 1) (grant_to 121) (full_sheet m) room
    ∷ []

-- the double-voter bound with one seat more
abbrev pub LooserBound : History → Type 0
LooserBound calls = (p q : PerformedIn calls) → p.state ≡ q.state → p.bytes ≢ q.bytes
    → counted_on_both (rows_of p.sheet) (rows_of q.sheet) p.state.seats ≤ 2 * p.state.minima.margin + 1

-- The starts are lawful, all four calls are answered 0, exactly 2m+1 seats count on both sheets, the looser bound holds, and Agreement does not.
pub record BeyondByOne (m : ℕ) : Type 0 where
  pub park : Park (first m) (divided m)
  pub performed : map answer (moments (divided m)) ≡ replicate 4 accepted
  pub double-voters : counted_on_both (rows_of (full_sheet m)) (rows_of (full_sheet m)) (first_state m).seats ≡ 2 * m + 1
  pub looser-bound : LooserBound (divided m)
  pub splits : ¬ Agreement (divided m)

-- at every margin in range
abbrev pub BoundIsTight : Type 0
BoundIsTight = (m : ℕ) → m ≤ most_margin → BeyondByOne m
