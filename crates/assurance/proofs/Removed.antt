-- A removed seat answers no one for long.
use mathlib.Core.Path.{◌≡◌, ap}
use mathlib.Core.Bool.{true, false≢true}
use mathlib.Core.List.{List}
use Prim.Native.Nat.{ℕ, ◌≤◌, ◌<◌}
use native.Mathlib.Decide.{dec_le}
use native.Mathlib.Omega.{arith}
use Rattle.state.specs.declared.Day.{Day}
use Rattle.state.specs.declared.Seat.{Seat}
use Rattle.state.specs.declared.State.{State}
use Rattle.state.specs.Seats.{free_seat, retired, seat_at, is_active}
use Rattle.state.specs.Time.{days_since}
use Rattle.records.specs.declared.Announcement.{Announcement}
use Rattle.records.specs.declared.Action.TheVariants.{Remove}
use Rattle.records.specs.declared.Query.{Query}
use Rattle.checkpoint.specs.Checkpoint.{read_checkpoint}
use Rattle.actions.specs.Perform.{perform, advance, without_lapsed, act, with_standing, use_proposal, effect}
use Rattle.node.specs.declared.Node.{Node}
use Rattle.agreement.specs.History.{History, Moment}
use Rattle.agreement.specs.Claims.{Opened, Park, EquivocationBound}
use Rattle.agreement.specs.Chain.{Step, Reached}
use Rattle.agreement.proofs.Chain.{days, through}
use Rattle.agreement.proofs.Steps.{always}
use Rattle.agreement.proofs.Demand.{opens, not-before-given, advances, taken, from_first, one}
use Rattle.assurance.specs.Removed.{RemovedNeverOpens}
use Rattle.assurance.proofs.Facts.{step-found}
use Rattle.assurance.proofs.Lives.{set_there, rises}

-- a remove retires the seat
remove-retires : (s : State) (d : Day) (i : ℕ) → is_active (seat_at i s.seats) ≡ true → (seat_at i (act s d (Remove i)).seats).standing ≡ retired
unfolding act with_standing use_proposal effect
remove-retires s d i e = ap (λ (x : Seat). x.standing) (set_there s.seats i _ free_seat (λ z. false≢true (rw z at e)))

module _ (first : List ℕ) (calls : History) (park : Park first calls) (bound : EquivocationBound calls) where
  abbrev Reach : State → Type 0
  Reach s = Reached (read_checkpoint first).state (Step calls) s

  -- a node of a cycle up to that of the remove is silent on such a day, and a later one is halted
  late : (s : State) (a : Announcement) → Reach s → Step calls s a → (u : Moment) (n : Node) (q : Query) → Reach n.state → Opened u n q
      → a.action ≡ Remove n.own.seat → ¬ (n.state.minima.silence < days_since q.day a.day)
  unfolding perform advance
  late s a S d u n q N o removes above = pick (dec_le n.state.cycle.0 s.cycle.0)
    where
      i : ℕ
      i = n.own.seat

      pick : Dec (n.state.cycle.0 ≤ s.cycle.0) → ⊥
      pick (yes h) =
          let x = days (read_checkpoint first).state (Step calls) (one first calls park bound) (advances first calls park) N S h in
          let y = (advances first calls park s a d).not-before in
          let z = (opens u n q o).within-silence in
          let v = not-before-given q.day n.state.day in
          omega arith
      pick (no h) =
          let R = through (read_checkpoint first).state (Step calls) (one first calls park bound) (advances first calls park) a S d N (omega arith) in
          let f = rw removes at (step-found first calls park s a d) in
          let there : (seat_at i (perform s a).seats).standing ≡ retired = rw removes (remove-retires (without_lapsed a.day s) a.day i f) in
          let now = (rises first calls park i R).stays-retired there in
          (opens u n q o).running now

pub removed-never-opens : RemovedNeverOpens
removed-never-opens first calls park bound r o =
    late first calls park bound r.state r.announcement (from_first first calls park r) (taken r) o.moment o.node o.query
    ((always first calls park o.moment o.in_list).0.held o.opened.host o.node o.opened.held).reach o.opened
