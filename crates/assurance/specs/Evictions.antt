-- "Grants into a full list" (02, A8): what an owner can rely on where a grant evicts a login.
use Rattle.std.specs.Prelude.{◌≡◌, ◌≢◌, true, ℕ, ◌<◌, Some}
use mathlib.Core.List.{List, Memᴰ}
use Rattle.state.specs.declared.Login.{Login}
use Rattle.state.specs.Time.{days_since, DayNotAfter}
use Rattle.state.specs.Rows.{is_login}
use Rattle.records.specs.declared.Action.TheVariants.{End}
use Rattle.records.specs.declared.Query.{Query}
use Rattle.records.specs.StartQuery.{read_query}
use Rattle.actions.specs.Evictions.{Evicts, RowAfter}
use Rattle.node.specs.declared.Node.{Node}
use Rattle.node.specs.QueryAnswer.{Open}
use Rattle.node.specs.Query.{query_of}
use Rattle.agreement.specs.History.{History}
use Rattle.agreement.specs.Claims.{PerformedIn, OpenedIn, Park, EquivocationBound, GrantedBetween}

-- What a performed delivery of a list does to a listed row, with or without the bound: it stays, its login is ended or granted anew, or it is the one
-- that a grant evicts, which was over on the announced day.
abbrev pub ListedRowsStay : Type 0
ListedRowsStay = (first : List ℕ) (calls : History) → Park first calls
    → (p : PerformedIn calls) (r : Login) → Memᴰ r p.state.logins → is_login r ≡ true → RowAfter p.state p.announcement r

-- No query for an evicted login on the announced day or later would have been answered open, by any node of that state.
abbrev pub EvictedWasClosed : Type 0
EvictedWasClosed = (first : List ℕ) (calls : History) → Park first calls
    → (p : PerformedIn calls) (x r : Login) → Evicts p.state p.announcement x r
    → (n : Node) → n.state ≡ p.state → (qb : List ℕ) (q : Query) → read_query qb ≡ Some q → q.login ≡ r.login
    → DayNotAfter p.announcement.day q.day → (query_of n qb).answer ≢ Open

-- the performed delivery ends the login, or evicts it
pub data Drops {calls : History} (p : PerformedIn calls) (login : ℕ) : Type 0 where
  ends : p.announcement.action ≡ End login → Drops p login
  evicts : (x r : Login) → Evicts p.state p.announcement x r → r.login ≡ login → Drops p login

-- "The bound on an ended login must survive the dropping.": a login that was ended or evicted, in cycle e with announced day D, is answered open for a
-- given day above D+S only if it was granted again in a cycle above e and below that of the node asked.
abbrev pub DroppedStaysOut : Type 0
DroppedStaysOut = (first : List ℕ) (calls : History) → Park first calls → EquivocationBound calls
    → (p : PerformedIn calls) (o : OpenedIn calls) → Drops p o.query.login
    → o.node.state.minima.silence < days_since o.query.day p.announcement.day
    → GrantedBetween calls o.query.login p.state.cycle o.node.state.cycle

-- Two performed deliveries of one cycle evict the same row for the same grant, at any two hosts.
abbrev pub EvictAlike : Type 0
EvictAlike = (first : List ℕ) (calls : History) → Park first calls → EquivocationBound calls
    → (p q : PerformedIn calls) → p.state.cycle ≡ q.state.cycle
    → (x y r t : Login) → Evicts p.state p.announcement x r → Evicts q.state q.announcement y t → (x ≡ y) × (r ≡ t)
