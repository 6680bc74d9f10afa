-- "Cooling-off for restarts": how the life of a replacement comes to be listed, with or without the bound on double voters. A row of a sheet counts
-- only under the listed life (`CountsListedLife`), and a node votes only under its listed life (15).
use Rattle.std.specs.Prelude.{◌≡◌, ◌≢◌, true, List, ℕ, ◌≤◌}
use Rattle.state.specs.declared.Proposal.{Proposal}
use Rattle.state.specs.declared.State.{State}
use Rattle.state.specs.Time.{days_since}
use Rattle.state.specs.Trustees.{is_majority}
use Rattle.state.specs.Seats.{free, seat_at}
use Rattle.state.specs.Subjects.{rejoins}
use Rattle.records.specs.declared.Announcement.{Announcement}
use Rattle.records.specs.declared.Action.TheVariants.{Rejoin}
use Rattle.records.specs.Sheet.{level1}
use Rattle.checkpoint.specs.Checkpoint.{read_checkpoint}
use Rattle.actions.specs.Perform.{perform}
use Rattle.agreement.specs.History.{History}
use Rattle.agreement.specs.Claims.{Park}
use Rattle.agreement.specs.Chain.{Step, Reached}
use Rattle.assurance.specs.Notice.{Listed, Proposed}

-- The notice of a rejoin of seat i under a life, performed from u: a proposal of that seat and life, announced at least the restart notice of u before
-- and at most 60 days, which stands in the first state or was proposed in the chain, signed by a majority of level 1 (`Proposed`); a majority of level
-- 1 signed the rejoin too. The row is used up.
pub record RejoinNotice (first : State) (calls : History) (u : State) (b : Announcement) (x : Step calls u b) (i life : ℕ) : Type 0 where
  pub row : Proposal
  pub subject : row.subject ≡ rejoins i life
  pub least : u.minima.notices.restart ≤ days_since b.day row.day
  pub most : days_since b.day row.day ≤ 60
  pub proposed : Proposed first calls u row
  pub signed : is_majority u.trustees1 (level1 x.sheet) ≡ true
  pub once : (v : State) → Reached (perform u b) (Step calls) v → ¬ Listed row v

-- Every rejoin that is performed in a list had it.
abbrev pub RejoinsNoticed : Type 0
RejoinsNoticed = (first : List ℕ) (calls : History) → Park first calls
    → (u : State) (b : Announcement) (x : Step calls u b) (i life : ℕ) → b.action ≡ Rejoin i life
    → RejoinNotice (read_checkpoint first).state calls u b x i life

-- A rejoin of the chain of u gave seat i this life, and its proposal is older than the agreed day of u by at least the restart notice that was in force
-- in the state from which it was performed.
pub record CooledOff (first : State) (calls : History) (u : State) (i life : ℕ) : Type 0 where
  pub from : State
  pub rejoin : Announcement
  pub step : Step calls from rejoin
  pub named : rejoin.action ≡ Rejoin i life
  pub notice : RejoinNotice first calls from rejoin step i life
  pub since : Reached (perform from rejoin) (Step calls) u
  pub days : from.minima.notices.restart ≤ days_since u.day notice.row.day

-- A vault is replaced: from one state of the chain to a later one the life of its seat, which is not free, changes. Then between the day on which that
-- life was announced and the agreed day of every state that lists it lies at least that restart notice.
abbrev pub ReplacementsCoolOff : Type 0
ReplacementsCoolOff = (first : List ℕ) (calls : History) → Park first calls
    → (s u : State) → Reached s (Step calls) u → (i : ℕ) → (seat_at i s.seats).standing ≢ free
    → (seat_at i u.seats).life ≢ (seat_at i s.seats).life
    → CooledOff (read_checkpoint first).state calls u i (seat_at i u.seats).life
