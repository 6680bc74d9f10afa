-- How a park comes to a state: from that of its first checkpoint, by announcements that deliver calls of the list perform.
use Rattle.std.specs.Prelude.{◌≡◌, List, ℕ}
use Rattle.state.specs.declared.State.{State}
use Rattle.records.specs.declared.Announcement.{Announcement}
use Rattle.checkpoint.specs.Checkpoint.{read_checkpoint}
use Rattle.actions.specs.Perform.{perform}
use Rattle.agreement.specs.History.{History, Moment}
use Rattle.agreement.specs.Claims.{◌∈◌, Performed, HeldIn, Park}

-- the announcement a is performed from s by a deliver call of the list
pub record Step (calls : History) (s : State) (a : Announcement) : Type 0 where
  pub moment : Moment
  pub in_list : moment ∈ calls
  pub bytes : List ℕ
  pub sheet : List ℕ
  pub performed : Performed moment s bytes a sheet

-- The chain of a state: it is the first one, or what an announcement makes of a state of the chain. `By s a`: the announcement a may be performed
-- from s.
pub data Reached (first : State) (By : State → Announcement → Type 0) : State → Type 0 where
  origin : {s : State} → s ≡ first → Reached first By s
  next : {s : State} (r : State) (a : Announcement) → Reached first By r → By r a → s ≡ perform r a → Reached first By s

-- Every node that a host holds after a call has such a chain, with or without the bound.
abbrev pub AlwaysReached : Type 0
AlwaysReached = (first : List ℕ) (calls : History) → Park first calls
    → (n : HeldIn calls) → Reached (read_checkpoint first).state (Step calls) n.node.state
