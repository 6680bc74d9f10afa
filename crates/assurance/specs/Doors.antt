-- "Two runs that differ only in the queries at other doors give one door the same answers and leave it the same count.": for lists of calls at any
-- number of hosts, by value and through C, from empty hosts. And what locks a door, and what opens all four.
use Rattle.std.specs.Prelude.{◌≡◌, ◌≢◌, Bool, false, cond, not, ◌&&◌, ℕ, ◌≤◌, ◌<◌, eqb, length, Some, None}
use mathlib.Core.List.{List, [], ◌∷◌, Memᴰ}
use Rattle.std.specs.declared.option.Option as Rust
use Rattle.std.proofs.Math.Option.{Option, none, some}
use Rattle.lists.specs.Table.{keep}
use Rattle.records.specs.declared.Query.{Query}
use Rattle.records.specs.Layout.{door_count}
use Rattle.records.specs.StartQuery.{read_query}
use Rattle.verdicts.specs.Attempts.{most_misses, misses_at, no_misses}
use Rattle.node.specs.declared.Node.{Node}
use Rattle.node.specs.WellFormed.{WellFormedNode}
use Rattle.image.specs.Layout.{image_size}
use Rattle.agreement.specs.History.{Host, by_value, through_c, Call, start, deliver, query, checkpoint, History, Cluster, empty, node_at, run, after}
use Rattle.agreement.specs.Claims.{PerformedIn, HoldsBytes, Park, run_all}
use Rattle.assurance.specs.Refusals.{AddsMiss}

-- ---- the calls that concern a door

-- a well-formed query at another door than d; a malformed one is at no door
abbrev pub is_elsewhere : ℕ → Rust.Option Query → Bool
is_elsewhere d None = false
is_elsewhere d (Some q) = not (eqb q.door d)

abbrev pub is_same_host : Host → Host → Bool
is_same_host (by_value i) (by_value j) = eqb i j
is_same_host (by_value i) (through_c j) = false
is_same_host (through_c i) (by_value j) = false
is_same_host (through_c i) (through_c j) = eqb i j

-- a query at host h, at another door than d
abbrev pub asks_elsewhere : Host → ℕ → Call → Bool
asks_elsewhere h d (start g cb sb out) = false
asks_elsewhere h d (deliver g ab sb out) = false
asks_elsewhere h d (query g qb out) = is_same_host g h && is_elsewhere d (read_query qb)
asks_elsewhere h d (checkpoint g out) = false

-- the calls of a list without those
abbrev pub seen_at : Host → ℕ → History → History
seen_at h d calls = keep (λ c. not (asks_elsewhere h d c)) calls

-- and what they are answered, from the cluster w on
unfoldable pub answers_at : Host → ℕ → Cluster → History → List (Option ℕ)
answers_at h d w [] = []
answers_at h d w (c ∷ cs) =
    let later = answers_at h d (run w c).after cs in
    cond (asks_elsewhere h d c) later ((run w c).answer ∷ later)

-- ---- doors don't disturb each other

-- the nodes differ in nothing but the misses at other doors than d
pub record SameAt (d : ℕ) (n k : Node) : Type 0 where
  pub state : n.state ≡ k.state
  pub own : n.own ≡ k.own
  pub misses : misses_at d n.counts ≡ misses_at d k.counts

-- no node, or two such nodes
pub data SameHeld (d : ℕ) : Option Node → Option Node → Type 0 where
  neither : SameHeld d none none
  both : {n k : Node} → SameAt d n k → SameHeld d (some n) (some k)

-- the clusters differ in nothing but the misses of host h at other doors than d
pub record SameBut (h : Host) (d : ℕ) (w v : Cluster) : Type 0 where
  pub here : SameHeld d (node_at w h) (node_at v h)
  pub others : (g : Host) → g ≢ h → node_at w g ≡ node_at v g
  pub given : w.given ≡ v.given

-- the slices that the calls are handed hold bytes
abbrev pub HoldBytes : History → Type 0
HoldBytes calls = (c : Call) → Memᴰ c calls → HoldsBytes c

-- Two lists that differ only in queries at other doors of a host: all other calls get the same answers, and the clusters are left the same but for the
-- misses at those doors.
abbrev pub DoorsApart : Type 0
DoorsApart = (h : Host) (d : ℕ) (xs ys : History) → HoldBytes xs → HoldBytes ys → seen_at h d xs ≡ seen_at h d ys
    → (answers_at h d empty xs ≡ answers_at h d empty ys) × SameBut h d (run_all empty xs) (run_all empty ys)

-- ---- what locks a door, and what opens it

-- the call is a query at door d of host h, and is refused by 19, 20 or 21
pub record AddsMissAt (h : Host) (d : ℕ) (w : Cluster) (c : Call) : Type 0 where
  pub bytes : List ℕ
  pub out : List ℕ
  pub called : c ≡ query h bytes out
  pub question : Query
  pub read : read_query bytes ≡ Some question
  pub door : question.door ≡ d
  pub number : ℕ
  pub answered : (run w c).answer ≡ some number
  pub adds : AddsMiss number

-- each call in turn is one
abbrev pub AllMiss : Host → ℕ → Cluster → History → Type 0
AllMiss h d w [] = Unit {0}
AllMiss h d w (c ∷ cs) = AddsMissAt h d w c × AllMiss h d (run w c).after cs

-- a slice with room for an image, where the host's calls write one
abbrev pub HasRoom : Host → List ℕ → Type 0
HasRoom (by_value i) out = Unit {0}
HasRoom (through_c i) out = image_size ≤ length out

-- in cluster v, host h answers 17 at door d, and at every other door as in cluster w
pub record LockedAlone (h : Host) (d : ℕ) (w v : Cluster) : Type 0 where
  pub locked : (qb out : List ℕ) (q : Query) → read_query qb ≡ Some q → q.door ≡ d → HasRoom h out → (run v (query h qb out)).answer ≡ some 17
  pub others : (qb out : List ℕ) (q : Query) → read_query qb ≡ Some q → q.door ≢ d
      → (run v (query h qb out)).answer ≡ (run w (query h qb out)).answer

-- Ten refused queries in a row at one door of a host lock that door and no other.
abbrev pub TenLockOne : Type 0
TenLockOne = (w : Cluster) (h : Host) (n : Node) → node_at w h ≡ some n → WellFormedNode n → (d : ℕ) → d < door_count → misses_at d n.counts ≡ 0
    → (calls : History) → length calls ≡ most_misses → AllMiss h d w calls → LockedAlone h d w (run_all w calls)

-- "A performed action clears all four.": what the host of a performed deliver holds after it has no misses.
abbrev pub DoneOpensAll : Type 0
DoneOpensAll = (first : List ℕ) (calls : History) → Park first calls
    → (p : PerformedIn calls) (n : Node) → node_at (after p.moment) p.performed.host ≡ some n → n.counts ≡ no_misses
