-- The table of no for deliver, query and start: the lowest number that applies, or 0 where none does.
use Rattle.std.specs.Prelude.{ℕ, List, Bool, not, ltb, leb}
use Rattle.refusals.specs.Refusals.{refuse_if, ◌or_else◌}
use Rattle.state.specs.declared.State.{State}
use Rattle.state.specs.Time.{later_day}
use Rattle.state.specs.Seats.{seat_at, is_active, quorum_of}
use Rattle.state.specs.Rows.{is_login, is_ended, is_silent, holds_right}
use Rattle.tables.specs.Logins.{find_login}
use Rattle.records.specs.declared.Announcement.{Announcement}
use Rattle.records.specs.declared.Query.{Query}
use Rattle.records.specs.declared.Start.{Start}
use Rattle.records.specs.Sheet.{level1, level2, rows_of, counted_seats}
use Rattle.rules.specs.Rules.{time_refusal, action_refusal}
use Rattle.verdicts.specs.declared.Own.{Own}
use Rattle.verdicts.specs.declared.AttemptCounts.{AttemptCounts}
use Rattle.verdicts.specs.Own.{is_halted, can_vote, voted_otherwise}
use Rattle.verdicts.specs.Attempts.{most_misses, misses_at}

-- rules 3 to 14 for an announcement with the sheet sb
unfoldable pub deliver_refusal : State → Own → Announcement → List ℕ → ℕ
deliver_refusal s o a sb =
    refuse_if (is_halted s o) 3
    or_else time_refusal s.cycle s.day a
    or_else action_refusal s a.day (level1 sb) (level2 sb) a.action

-- the sheet shows a quorum of this state
unfoldable pub shows_quorum : State → List ℕ → Bool
shows_quorum s sb = leb (quorum_of s) (counted_seats (rows_of sb) s.seats)

-- rules 15 and 16 for the announcement's bytes ab
unfoldable pub vote_refusal : State → Own → List ℕ → ℕ
vote_refusal s o ab = refuse_if (not (can_vote s o)) 15 or_else refuse_if (voted_otherwise o ab) 16

-- rules 19 to 21, on day t
unfoldable pub login_refusal : State → Query → ℕ
login_refusal s q =
    let t = later_day q.day s.day in
    let row = find_login q.login s.logins in
    refuse_if (not (is_login row)) 19
    or_else refuse_if (is_ended t row) 20
    or_else refuse_if (not (holds_right q.right row)) 21

-- rules 3 and 17 to 21, the misses being those at the query's door: "Let t be the later of given and agreed day."
unfoldable pub query_refusal : State → Own → AttemptCounts → Query → ℕ
query_refusal s o c q =
    refuse_if (is_halted s o) 3
    or_else refuse_if (leb most_misses (misses_at q.door c)) 17
    or_else refuse_if (is_silent s.day s.minima.silence (later_day q.day s.day)) 18
    or_else login_refusal s q

-- 9 "seat's standing unfit", for a start "free or retired"; 14 "start life below it"
unfoldable pub start_refusal : State → Start → ℕ
start_refusal s x =
    refuse_if (not (is_active (seat_at x.seat s.seats))) 9
    or_else refuse_if (ltb x.life (seat_at x.seat s.seats).life) 14
