-- Where an open answer comes from, with or without the bound on double voters.
use Rattle.std.specs.Prelude.{◌≡◌, true, List, ℕ, ◌≤◌}
use Rattle.state.specs.declared.Login.{Login}
use Rattle.state.specs.declared.State.{State}
use Rattle.state.specs.Time.{days_since, DayNotAfter}
use Rattle.state.specs.Rows.{holds_right}
use Rattle.tables.specs.Logins.{find_login}
use Rattle.records.specs.declared.Announcement.{Announcement}
use Rattle.records.specs.declared.Action.TheVariants.{Grant}
use Rattle.records.specs.declared.Query.{Query}
use Rattle.checkpoint.specs.Checkpoint.{read_checkpoint}
use Rattle.actions.specs.Perform.{perform}
use Rattle.node.specs.declared.Node.{Node}
use Rattle.agreement.specs.History.{History}
use Rattle.agreement.specs.Claims.{OpenedIn, Park}
use Rattle.agreement.specs.Chain.{Step, Reached}

-- The row of the login stays: it stands in the state before the announcement and in the one after it.
pub record Stays (login : ℕ) (row : Login) (s : State) (a : Announcement) : Type 0 where
  pub before : find_login login s.logins ≡ row
  pub after : find_login login (perform s a).logins ≡ row

-- From s to u the row stays in every state of the chain: it is not ended, replaced or evicted since.
abbrev pub Since : History → ℕ → Login → State → State → Type 0
Since calls login row s u = Reached s (λ r a. Step calls r a × Stays login row r a) u

-- The row of a login in the state u stands in the first state, or was granted in the chain of u.
pub data Provenance (first : State) (calls : History) (login : ℕ) (u : State) (row : Login) : Type 0 where
  at_first : find_login login first.logins ≡ row → Since calls login row first u → Provenance first calls login u row
  granted : (r : State) (a : Announcement) → Reached first (Step calls) r → Step calls r a → a.action ≡ Grant row
      → Since calls login row (perform r a) u → Provenance first calls login u row

-- An open answer has a grant performed in the chain of that node (or a row of the first checkpoint), whose row has stayed since in that chain, with
-- that right and an end day not before the given day; and the given day is at most the agreed day plus S.
pub record OpenRow (first : State) (calls : History) (n : Node) (q : Query) : Type 0 where
  pub row : Login
  pub provenance : Provenance first calls q.login n.state row
  pub named : row.login ≡ q.login
  pub right : holds_right q.right row ≡ true
  pub end : DayNotAfter q.day row.end
  pub heard : days_since q.day n.state.day ≤ n.state.minima.silence

abbrev pub OpenIsGranted : Type 0
OpenIsGranted = (first : List ℕ) (calls : History) → Park first calls
    → (o : OpenedIn calls) → OpenRow (read_checkpoint first).state calls o.node o.query
