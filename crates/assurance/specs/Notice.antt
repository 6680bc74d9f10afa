-- Every certify, minima, remove or rejoin that is performed was announced by a propose, with or without the bound on double voters.
use Rattle.std.specs.Prelude.{◌≡◌, ◌≢◌, true, ℕ, ◌≤◌}
use mathlib.Core.List.{List, Memᴰ}
use Rattle.state.specs.declared.Cycle.{Cycle}
use Rattle.state.specs.declared.Proposal.{Proposal}
use Rattle.state.specs.declared.State.{State}
use Rattle.state.specs.Time.{days_since}
use Rattle.state.specs.Trustees.{is_majority}
use Rattle.state.specs.Rows.{is_proposal}
use Rattle.records.specs.declared.Announcement.{Announcement}
use Rattle.records.specs.declared.Action.TheVariants.{Propose, Cancel}
use Rattle.records.specs.Actions.{subject_of}
use Rattle.records.specs.Sheet.{level1, level2}
use Rattle.checkpoint.specs.Checkpoint.{read_checkpoint}
use Rattle.tables.specs.Claims.{IsNotice}
use Rattle.actions.specs.Perform.{perform}
use Rattle.actions.specs.Claims.{Signed}
use Rattle.agreement.specs.History.{History}
use Rattle.agreement.specs.Claims.{Park}
use Rattle.agreement.specs.Chain.{Step, Reached}

-- the proposal is a row of the state
abbrev pub Listed : Proposal → State → Type 0
Listed r s = Memᴰ r s.proposals

-- The proposal is a row of every state of the chain from s up to u: no action before drops it, as cancelled, used or lapsed.
abbrev pub Stays : History → Proposal → State → State → Type 0
Stays calls r s u = Reached s (λ q b. Step calls q b × Listed r q) u

-- Where a proposal that is listed in u comes from: the first state, or a propose of the chain with its cycle and day, which a majority of level 1
-- signed.
pub data Proposed (first : State) (calls : History) (u : State) (r : Proposal) : Type 0 where
  at_first : Listed r first → Stays calls r first u → Proposed first calls u r
  announced : (s : State) (a : Announcement) (x : Step calls s a) → Reached first (Step calls) s → a.action ≡ Propose r.subject
      → r.cycle ≡ s.cycle → r.day ≡ a.day → is_majority s.trustees1 (level1 x.sheet) ≡ true
      → Stays calls r (perform s a) u → Proposed first calls u r

-- Each performed action that has a subject (certify, minima, remove, rejoin) uses up a proposal of that subject, listed in its state and announced at
-- least the notice before that is in force in it, and at most 60 days, which stands in the first state or was proposed in the same chain and not
-- cancelled, not used before and not lapsed; a majority of the level of its kind signed it. Whatever the park has set, a day at least lies
-- between. No later state of the chain lists that row: one propose, one action.
pub record Noticed (first : State) (calls : History) (u : State) (b : Announcement) (x : Step calls u b) : Type 0 where
  pub row : Proposal
  pub listed : Listed row u
  pub notice : IsNotice u.minima.notices (subject_of b.action) b.day row
  pub day-before : 1 ≤ days_since b.day row.day
  pub proposed : Proposed first calls u row
  pub signed : Signed u (level1 x.sheet) (level2 x.sheet) b.action
  pub once : (v : State) → Reached (perform u b) (Step calls) v → ¬ Listed row v

abbrev pub AlwaysNoticed : Type 0
AlwaysNoticed = (first : List ℕ) (calls : History) → Park first calls
    → (u : State) (b : Announcement) (x : Step calls u b) → (subject_of b.action).kind ≢ 0 → Noticed (read_checkpoint first).state calls u b x

-- A cancelled proposal serves no action: no state after the cancel lists a proposal of that cycle.
abbrev pub CancelledNeverListed : Type 0
CancelledNeverListed = (first : List ℕ) (calls : History) → Park first calls
    → (u : State) (b : Announcement) → Step calls u b → (c : Cycle) → b.action ≡ Cancel c
    → (v : State) → Reached (perform u b) (Step calls) v → (r : Proposal) → is_proposal r ≡ true → r.cycle ≡ c → ¬ Listed r v
