-- "The table of no", rules 4 to 14: the lowest number that applies to an announcement, or 0 where none does.
use Rattle.std.specs.Prelude.{ℕ, ◌+◌, ◌-◌, Bool, cond, not, ◌&&◌, eqb, ltb, leb}
use Rattle.refusals.specs.Refusals.{refuse_if, lowest, ◌or_else◌}
use Rattle.state.specs.declared.Day.{Day}
use Rattle.state.specs.declared.Cycle.{Cycle}
use Rattle.state.specs.declared.Subject.{Subject}
use Rattle.state.specs.declared.Seat.{Seat}
use Rattle.state.specs.declared.State.{State}
use Rattle.state.specs.Time.{is_before_day, is_before_cycle, is_same_cycle, last_cycle}
use Rattle.state.specs.Seats.{free, certified, present, seat_at, is_present, is_active, present_seats, quorum}
use Rattle.state.specs.Trustees.{is_majority}
use Rattle.state.specs.Rows.{is_proposal}
use Rattle.tables.specs.Proposals.{proposals_full, has_proposal, notice_in}
use Rattle.tables.specs.Logins.{is_listed, lacks_row}
use Rattle.records.specs.declared.Announcement.{Announcement}
use Rattle.records.specs.declared.Action.{Action}
use Rattle.records.specs.declared.Action.TheVariants.{Propose, Cancel, Presents, Certify, Minima, Remove, Rejoin, Grant, End}
use Rattle.records.specs.Actions.{kind_of, level_of, subject_of}

-- 4 "cycle passed", 5 "cycle not reached", 6 "cycle is 4294967295", 7 "day before agreed day": in the state's cycle, with its agreed day
unfoldable pub time_refusal : Cycle → Day → Announcement → ℕ
time_refusal now agreed a =
    refuse_if (is_before_cycle a.cycle now) 4
    or_else refuse_if (is_before_cycle now a.cycle) 5
    or_else refuse_if (is_same_cycle now last_cycle) 6
    or_else refuse_if (is_before_day a.day agreed) 7

-- more than half of the trustees of that level are on its mask
abbrev pub is_signed : State → ℕ → ℕ → ℕ → Bool
is_signed s level mask1 mask2 = cond (eqb level 1) (is_majority s.trustees1 mask1) (is_majority s.trustees2 mask2)

-- 8 "too few trustees"
abbrev pub trustee_refusal : Bool → ℕ
trustee_refusal signed = refuse_if (not signed) 8

-- 10 "no ripe proposal", for an action that has a subject
abbrev pub lacks_notice : State → Day → Subject → Bool
lacks_notice s d x = not (eqb x.kind 0) && not (is_proposal (notice_in s x d))

unfoldable pub notice_refusal : State → Day → Subject → ℕ
notice_refusal s d x = refuse_if (lacks_notice s d x) 10

-- 12 "kind 3, 5 or 6 would leave quorum above p": p, m and k are those after the action
unfoldable pub quorum_refusal : ℕ → ℕ → ℕ → ℕ
quorum_refusal p m k = refuse_if (ltb p (quorum p m k)) 12

-- p after a remove of this seat
unfoldable pub present_without : Seat → ℕ → ℕ
present_without x p = p - cond (is_present x) 1 0

-- 9 "seat's standing unfit", 11 "table full and the row is needed", 12, 13 "no such proposal or login", 14 "rejoin life not above the listed; ..
-- grant ending before its day", for the action of each kind, announced on day d
unfoldable pub check_refusal : State → Day → Action → ℕ
check_refusal s d (Propose x) = refuse_if (proposals_full s.proposals) 11
check_refusal s d (Cancel c) = refuse_if (not (has_proposal c s.proposals)) 13
check_refusal s d (Presents i flag) =
    refuse_if (not (eqb (seat_at i s.seats).standing (cond flag certified present))) 9
    or_else quorum_refusal (cond flag (present_seats s.seats + 1) (present_seats s.seats - 1)) s.minima.margin s.minima.least
check_refusal s d (Certify i life) = refuse_if (not (eqb (seat_at i s.seats).standing free)) 9
check_refusal s d (Minima x) = quorum_refusal (present_seats s.seats) x.margin x.least
check_refusal s d (Remove i) =
    refuse_if (not (is_active (seat_at i s.seats))) 9
    or_else quorum_refusal (present_without (seat_at i s.seats) (present_seats s.seats)) s.minima.margin s.minima.least
check_refusal s d (Rejoin i life) =
    refuse_if (not (is_active (seat_at i s.seats))) 9
    or_else refuse_if (leb life (seat_at i s.seats).life) 14
check_refusal s d (Grant x) =
    refuse_if (lacks_row d x.login s.logins) 11
    or_else refuse_if (is_before_day x.end d) 14
check_refusal s d (End login) = refuse_if (not (is_listed login s.logins)) 13

-- 8 to 14, with the two masks of the sheet: the level of trustees, the notice and the check are those of the action's kind
unfoldable pub action_refusal : State → Day → ℕ → ℕ → Action → ℕ
action_refusal s d mask1 mask2 x =
    trustee_refusal (is_signed s (level_of (kind_of x)) mask1 mask2)
    or_else lowest (notice_refusal s d (subject_of x)) (check_refusal s d x)
