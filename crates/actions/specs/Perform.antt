-- "The nine actions": what each does to a state.
use Rattle.std.specs.Prelude.{ℕ, cond, eqb}
use Rattle.state.specs.declared.Day.{Day}
use Rattle.state.specs.declared.Subject.{Subject}
use Rattle.state.specs.declared.State.{State}
use Rattle.state.specs.Time.{next_cycle}
use Rattle.state.specs.Minima.{set_over}
use Rattle.state.specs.Update.{with_time, with_minima, with_seats, with_proposals, with_logins}
use Rattle.state.specs.Seats.{certified, present, retired, seat_at, set_seat}
use Rattle.tables.specs.Proposals.{add_proposal, drop_proposal, drop_lapsed, notice_in}
use Rattle.tables.specs.Logins.{grant_login, end_login}
use Rattle.records.specs.declared.Announcement.{Announcement}
use Rattle.records.specs.declared.Action.{Action}
use Rattle.records.specs.declared.Action.TheVariants.{Propose, Cancel, Presents, Certify, Minima, Remove, Rejoin, Grant, End}
use Rattle.records.specs.Actions.{subject_of}

-- a seat with another standing, or with another life
unfoldable pub with_standing : ℕ → ℕ → State → State
with_standing i standing s = with_seats (set_seat i standing (seat_at i s.seats).life s.seats) s

unfoldable pub with_life : ℕ → ℕ → State → State
with_life i life s = with_seats (set_seat i (seat_at i s.seats).standing life s.seats) s

-- what an action, announced on day d, does to a table or to the minima
unfoldable pub effect : State → Day → Action → State
-- 1 propose: adds a proposal with this cycle and day
effect s d (Propose x) = with_proposals (add_proposal (record { cycle = s.cycle; day = d; subject = x }) s.proposals) s
-- 2 cancel: drops that cycle's proposal
effect s d (Cancel c) = with_proposals (drop_proposal c s.proposals) s
-- 3 presents: "1: certified to present; 0: back"
effect s d (Presents i flag) = with_standing i (cond flag present certified) s
-- 4 certify: free to certified, with that life
effect s d (Certify i life) = with_seats (set_seat i certified life s.seats) s
-- 5 minima: sets them; of the notices, "zero meaning keep"
effect s d (Minima x) = with_minima (set_over s.minima x) s
-- 6 remove: certified or present to retired
effect s d (Remove i) = with_standing i retired s
-- 7 rejoin: raises that seat's life
effect s d (Rejoin i life) = with_life i life s
-- 8 grant: adds or replaces the login; in a full list it "drops the row with the earliest end day"
effect s d (Grant x) = with_logins (grant_login x s.logins) s
-- 9 end: drops it
effect s d (End login) = with_logins (end_login login s.logins) s

-- "also use up the ripe proposal of lowest cycle with the same kind and arguments", where the action has a subject: that of the state `before`, for
-- "Ripeness is judged by the notices in force before the action."
unfoldable pub use_proposal : State → Subject → Day → State → State
use_proposal before x d s = cond (eqb x.kind 0) s (with_proposals (drop_proposal (notice_in before x d).cycle s.proposals) s)

unfoldable pub act : State → Day → Action → State
act s d x = use_proposal s (subject_of x) d (effect s d x)

-- "cycle plus 1, day as announced", and the action
unfoldable pub advance : State → Announcement → State
advance s a = with_time (next_cycle s.cycle) a.day (act s a.day a.action)

-- "Lapsed rows, judged by the announced day, are dropped before rules 9 to 14 are tried": the state that those rules and the action see
abbrev pub without_lapsed : Day → State → State
without_lapsed d s = with_proposals (drop_lapsed d s.proposals) s

-- "the node performs it": the lapsed rows "are gone from the state if the action is performed"
unfoldable pub perform : State → Announcement → State
perform s a = advance (without_lapsed a.day s) a
