-- Words of the code's contracts. Nothing of the paper.
use Rattle.std.specs.Prelude.{◌≤◌, ◌≡◌}
use Rattle.state.specs.declared.Day.{Day}
use Rattle.state.specs.declared.Login.{Login}
use Rattle.state.specs.declared.State.{State}
use Rattle.state.specs.Limits.{seat_count}
use Rattle.state.specs.Seats.{seat_at, present_seats}
use Rattle.tables.specs.Proposals.{notice_in}
use Rattle.tables.specs.Code.{eviction_for}
use Rattle.records.specs.declared.Action.{Action}
use Rattle.records.specs.declared.Action.TheVariants.{Grant}
use Rattle.records.specs.Actions.{subject_of, seat_of}
use Rattle.rules.specs.declared.Found.{Found}

-- f has the present seats of the state, and the seat that the action names as it is listed
abbrev pub FindsSeats : State → Action → Found → Type 0
FindsSeats s x f = (f.present ≡ present_seats s.seats) × ((f.present ≤ seat_count) × (f.seat ≡ seat_at (seat_of x) s.seats))

-- the notice of an action that is announced on day d
abbrev pub FindsNotice : State → Day → Action → Found → Type 0
FindsNotice s d x f = f.notice ≡ notice_in s (subject_of x) d

-- what a grant evicts
abbrev pub FindsEviction : State → Action → Found → Type 0
FindsEviction s x f = (y : Login) → x ≡ Grant y → f.eviction ≡ eviction_for y.login s.logins

-- and all of these
pub record Finds (s : State) (d : Day) (x : Action) (f : Found) : Type 0 where
  pub seats : FindsSeats s x f
  pub notice : FindsNotice s d x f
  pub eviction : FindsEviction s x f
