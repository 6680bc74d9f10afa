-- Which states are well formed: "ranges as above; cycle at least 1; quorum at most p; proposals in strictly rising cycle below the cycle, day at most
-- the agreed day, arguments well formed; logins at least 1 and strictly rising, rights not zero"
use Rattle.std.specs.Prelude.{ℕ, List, Bool, cond, not, ◌&&◌, eqb, leb, replicate}
use Rattle.lists.specs.Fold.{all}
use Rattle.lists.specs.Table.{rising_from}
use Rattle.state.specs.declared.Day.{Day}
use Rattle.state.specs.declared.Cycle.{Cycle}
use Rattle.state.specs.declared.Seat.{Seat}
use Rattle.state.specs.declared.Proposal.{Proposal}
use Rattle.state.specs.declared.Login.{Login}
use Rattle.state.specs.declared.State.{State}
use Rattle.state.specs.Limits.{seat_count, proposal_rows, login_rows, most_trustees}
use Rattle.state.specs.Time.{is_before_day, is_same_day, is_before_cycle, is_same_cycle, cycles_since, cycle, day}
use Rattle.state.specs.Minima.{is_in_force}
use Rattle.state.specs.Seats.{free, retired, free_seat, present_seats, quorum_of}
use Rattle.state.specs.Subjects.{is_subject}
use Rattle.state.specs.Rows.{no_proposal, is_proposal, no_login, is_login}

-- "Life is 32 bits, 0 exactly at free seats."
abbrev pub is_well_formed_seat : Seat → Bool
is_well_formed_seat x = cond (eqb x.standing free) (eqb x.life 0) (leb x.standing retired && leb 1 x.life)

-- a used row of a state of this cycle and agreed day: "below the cycle, day at most the agreed day, arguments well formed"
abbrev pub is_intended : Cycle → Day → Proposal → Bool
is_intended c d r = is_before_cycle r.cycle c && (not (is_before_day d r.day) && is_subject r.subject)

-- "Unused rows are zero.": what is left of a row of kind 0
abbrev pub is_blank_proposal : Proposal → Bool
is_blank_proposal r = is_same_cycle r.cycle (cycle 0) && (is_same_day r.day (day 0) && eqb r.subject.arguments 0)

abbrev pub is_well_formed_proposal : Cycle → Day → Proposal → Bool
is_well_formed_proposal c d r = cond (is_proposal r) (is_intended c d r) (is_blank_proposal r)

-- what orders the proposals
abbrev pub cycle_of : Proposal → ℕ
cycle_of r = cycles_since r.cycle (cycle 0)

unfoldable pub are_well_formed_proposals : Cycle → Day → List Proposal → Bool
are_well_formed_proposals c d rows = rising_from is_proposal cycle_of 0 rows && all (is_well_formed_proposal c d) rows

-- a used row: "rights not zero"
abbrev pub has_rights : Login → Bool
has_rights r = leb 1 r.rights

-- what is left of a row of login 0
abbrev pub is_blank_login : Login → Bool
is_blank_login r = is_same_day r.end (day 0) && eqb r.rights 0

abbrev pub is_well_formed_login : Login → Bool
is_well_formed_login r = cond (is_login r) (has_rights r) (is_blank_login r)

unfoldable pub are_well_formed_logins : List Login → Bool
are_well_formed_logins rows = rising_from is_login (λ r. r.login) 1 rows && all is_well_formed_login rows

-- "numbers of level-1 and level-2 trustees (1 to 8 each)"
abbrev pub is_trustee_count : ℕ → Bool
is_trustee_count n = leb 1 n && leb n most_trustees

unfoldable pub is_well_formed : State → Bool
is_well_formed s =
    is_before_cycle (cycle 0) s.cycle
    && ((is_trustee_count s.trustees1 && (is_trustee_count s.trustees2 && is_in_force s.minima))
    && (all is_well_formed_seat s.seats
    && (leb (quorum_of s) (present_seats s.seats)
    && (are_well_formed_proposals s.cycle s.day s.proposals
    && are_well_formed_logins s.logins))))

-- a state that is not well formed, for where there is none
unfoldable pub blank_state : State
blank_state = record {
  cycle = cycle 0;
  day = day 0;
  trustees1 = 0;
  trustees2 = 0;
  minima = record { margin = 0; least = 0; silence = 0; notices = record { ordinary = 0; restart = 0 } };
  seats = replicate seat_count free_seat;
  proposals = replicate proposal_rows no_proposal;
  logins = replicate login_rows no_login;
}
