-- Demand 3, "a single claim about a list, and not one for each call".
--
-- How to read this page. A host is a hub, a cluster is all hubs with what they hold, a history is a list of calls.
--   (x : A) → B     for every x of A, B holds; A → B: if A, then B
--   A × B           A and B; (x : A) × B: there is an x of A for which B holds
--   A ⊎ B, ¬ A      A or B; not A
--   a ≡ b, a ≢ b    a equals b, a does not
--   r.name         the field of that name; .0 of a day or a cycle is its number
--   List.Memᴰ x l   x stands in the list l; t ∈ calls: t is a moment of the list, a call with the cluster that it finds
--   after t         the cluster after that call; node_at w h: the node that host h holds in w, or none
--   accepted        the answer 0: started, performed, open or given; `EquivocationBound` is the paper's double-voter bound
use Rattle.std.specs.Prelude.{◌≡◌, ◌≢◌, ◌⊎◌, true, ℕ, ◌*◌, ◌≤◌, ◌<◌, Some}
use mathlib.Core.List.{List, [], ◌++◌, ◌∷◌, Memᴰ}
use Rattle.std.proofs.Math.Option.{some}
use Rattle.binary.specs.Number.{Bytes}
use Rattle.state.specs.declared.Cycle.{Cycle}
use Rattle.state.specs.declared.State.{State}
use Rattle.state.specs.Time.{days_since, CycleBefore}
use Rattle.records.specs.declared.Announcement.{Announcement}
use Rattle.records.specs.declared.Action.TheVariants.{End}
use Rattle.records.specs.declared.Query.{Query}
use Rattle.records.specs.Announcement.{read_announcement}
use Rattle.records.specs.Sheet.{rows_of, counted_on_both}
use Rattle.records.specs.StartQuery.{read_query}
use Rattle.checkpoint.specs.Checkpoint.{checkpoint_bytes, is_checkpoint}
use Rattle.actions.specs.Claims.{IsGrantOf}
use Rattle.node.specs.declared.Node.{Node}
use Rattle.image.specs.Image.{image_bytes, read_image}
use Rattle.node.specs.WellFormed.{WellFormedNode}
use Rattle.agreement.specs.History.{Host, Call, start, deliver, query, checkpoint, History, Moment, moments, answer, after, node_at, run, empty}
use Rattle.agreement.specs.History.{Cluster, accepted}

-- t is a moment of the history
abbrev pub ◌∈◌ : Moment → History → Type 0
◌∈◌ t calls = Memᴰ t (moments calls)

infix 40 ◌∈◌
-- At moment t a deliver call is performed: from the state s, with the announcement a, whose bytes are ab, and the sheet sb.
pub record Performed (t : Moment) (s : State) (ab : List ℕ) (a : Announcement) (sb : List ℕ) : Type 0 where
  pub host : Host
  pub out : List ℕ
  pub node : Node
  pub called : t.call ≡ deliver host ab sb out
  pub held : node_at t.before host ≡ some node
  pub state : s ≡ node.state
  pub answered : answer t ≡ accepted
  pub read : read_announcement ab ≡ Some a

-- At moment t the query q is answered open, by the node n.
pub record Opened (t : Moment) (n : Node) (q : Query) : Type 0 where
  pub host : Host
  pub qb : List ℕ
  pub out : List ℕ
  pub called : t.call ≡ query host qb out
  pub held : node_at t.before host ≡ some n
  pub answered : answer t ≡ accepted
  pub read : read_query qb ≡ Some q

-- A deliver call of the list that is performed.
pub record PerformedIn (calls : History) : Type 0 where
  pub moment : Moment
  pub in_list : moment ∈ calls
  pub state : State
  pub bytes : List ℕ
  pub announcement : Announcement
  pub sheet : List ℕ
  pub performed : Performed moment state bytes announcement sheet

-- A query of the list that is answered open.
pub record OpenedIn (calls : History) : Type 0 where
  pub moment : Moment
  pub in_list : moment ∈ calls
  pub node : Node
  pub query : Query
  pub opened : Opened moment node query

-- What a host holds after a call of the list.
pub record HeldIn (calls : History) : Type 0 where
  pub moment : Moment
  pub in_list : moment ∈ calls
  pub host : Host
  pub node : Node
  pub held : node_at (after moment) host ≡ some node

-- ---- what is asked of a history

-- The slices that a call is handed hold bytes: "All other input is free."
abbrev pub HoldsBytes : Call → Type 0
HoldsBytes (start h cb rb out) = Bytes cb × Bytes rb × Bytes out
HoldsBytes (deliver h ab sb out) = Bytes ab × Bytes sb × Bytes out
HoldsBytes (query h qb out) = Bytes qb × Bytes out
HoldsBytes (checkpoint h out) = Bytes out

-- "Every accepted start is given that one, or the bytes that an earlier checkpoint call of the list, at any hub, wrote as its checkpoint."
abbrev pub LawfulStarts : List ℕ → History → Type 0
LawfulStarts first calls = (t : Moment) → t ∈ calls → (h : Host) (cb rb out : List ℕ) → t.call ≡ start h cb rb out → answer t ≡ accepted
    → (cb ≡ first) ⊎ Memᴰ cb t.before.given

-- "Double-voter bound: for any two deliver calls of the list that are performed, from equal synchronised states and with announcements that differ,
-- at most 2m seats count on both sheets. The margin in force m, standings and lives are those of that state."
abbrev pub EquivocationBound : History → Type 0
EquivocationBound calls = (p q : PerformedIn calls) → p.state ≡ q.state → p.bytes ≢ q.bytes
    → counted_on_both (rows_of p.sheet) (rows_of q.sheet) p.state.seats ≤ 2 * p.state.minima.margin

-- "The park has one well-formed first checkpoint."
pub record Park (first : List ℕ) (calls : History) : Type 0 where
  pub first-bytes : Bytes first
  pub first-checkpoint : is_checkpoint first ≡ true
  pub bytes : (t : Moment) → t ∈ calls → HoldsBytes t.call
  pub starts : LawfulStarts first calls

-- ---- what then holds

-- Agreement: what two hosts hold, after the same or different calls of the list, gives the same checkpoint where the cycles are equal.
abbrev pub Agreement : History → Type 0
Agreement calls = (n k : HeldIn calls) → n.node.state.cycle ≡ k.node.state.cycle
    → checkpoint_bytes n.node.state ≡ checkpoint_bytes k.node.state

-- a deliver call of the list performs a grant of the login, in a cycle above e and below c
abbrev pub GrantedBetween : History → ℕ → Cycle → Cycle → Type 0
GrantedBetween calls login e c = (g : PerformedIn calls) × IsGrantOf login g.announcement
    × CycleBefore e g.state.cycle × CycleBefore g.state.cycle c

-- "Ended, under that bound: a deliver call of the list performs kind 9 for the login, in cycle e with announced day D. A query for it, before or
-- after that call in the list, on a given day above D+S (S of the node asked, the sum never cut to 32 bits) is answered open only if a deliver call
-- of the list performs a grant of that login in a cycle above e and below the cycle of the node asked." A given day is above D+S where it comes more
-- than S days after D.
abbrev pub Ended : History → Type 0
Ended calls = (e : PerformedIn calls) (o : OpenedIn calls) → e.announcement.action ≡ End o.query.login
    → o.node.state.minima.silence < days_since o.query.day e.announcement.day
    → GrantedBetween calls o.query.login e.state.cycle o.node.state.cycle

-- Demand 3, whole.
abbrev pub Demand3 : Type 0
Demand3 = (first : List ℕ) (calls : History) → Park first calls → EquivocationBound calls → Agreement calls × Ended calls

-- ---- so that nothing above holds for want of a node

-- Every node that a host holds after a call is well formed, with or without the bound.
abbrev pub AlwaysWellFormed : Type 0
AlwaysWellFormed = (first : List ℕ) (calls : History) → Park first calls → (n : HeldIn calls) → WellFormedNode n.node

-- Every image that a host holds is that of a node, and is read back as that node.
abbrev pub ImagesReadBack : Type 0
ImagesReadBack = (first : List ℕ) (calls : History) → Park first calls
    → (t : Moment) → t ∈ calls → (i : ℕ) (b : List ℕ) → (after t).images i ≡ some b
    → (n : Node) × (b ≡ image_bytes n) × (read_image b ≡ record { ok = true; node = n })

-- the cluster after a list of calls
unfoldable pub run_all : Cluster → History → Cluster
run_all w [] = w
run_all w (c ∷ cs) = run_all (run w c).after cs

-- A moment is a call of the list together with the cluster that the calls before it left: a prefix of the list.
pub record Prefix (from : Cluster) (calls : History) (t : Moment) : Type 0 where
  pub earlier : History
  pub later : History
  pub list : calls ≡ earlier ++ (t.call ∷ later)
  pub cluster : t.before ≡ run_all from earlier

abbrev pub MomentsArePrefixes : Type 0
MomentsArePrefixes = (calls : History) (t : Moment) → t ∈ calls → Prefix empty calls t
