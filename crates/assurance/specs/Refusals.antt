-- "Refusals return the number, and leave state and buffers unchanged except for the miss just named and its image; a refused start yields no node."
-- For every call at a host of any cluster, and for every slice.
use Rattle.std.specs.Prelude.{◌≡◌, ◌≢◌, true, List, ℕ, ◌%◌, ◌≤◌, Some}
use Rattle.std.proofs.Math.Option.{some}
use Rattle.binary.specs.Number.{overwrite}
use Rattle.state.specs.declared.Cycle.{Cycle}
use Rattle.state.specs.declared.Day.{Day}
use Rattle.records.specs.declared.Query.{Query}
use Rattle.records.specs.StartQuery.{read_query}
use Rattle.roster.specs.Calls.{import_of, export_of}
use Rattle.shares.specs.Calls.{split_of, merge_of, add_of}
use Rattle.std.specs.Prelude.{Err}
use Rattle.refusals.specs.declared.Refusal as Row
use Rattle.node.specs.declared.Node.{Node}
use Rattle.node.specs.CheckpointAnswer.{Refused}
use Rattle.node.specs.PageAnswer as Page
use Rattle.node.specs.Checkpoint.{checkpoint_of, checkpoint_slice}
use Rattle.node.specs.Page.{page_of, page_slice}
use Rattle.node.specs.Claims.{one_miss_more, no_misses_at}
use Rattle.image.specs.Image.{image_bytes, is_image, read_image}
use Rattle.node_c.specs.Calls.{Returned, node_start, node_deliver, node_query, node_checkpoint, node_page, node_roster_import, node_roster_export}
use Rattle.node_c.specs.Calls.{node_shares_split, node_shares_merge, node_shares_add}
use Rattle.agreement.specs.History.{Host, by_value, through_c, Call, start, deliver, query, checkpoint, Cluster, accepted, run}

-- k is the number of a refusal: 0 is started, done, open or given, and 128 is voted
abbrev pub Refusal : ℕ → Type 0
Refusal k = (k ≢ 0) × (k ≢ 128)

-- "19, 20 and 21 add a miss"
abbrev pub AddsMiss : ℕ → Type 0
AddsMiss k = (19 ≤ k) × (k ≤ 21)

-- ---- what hosts hold

-- every host holds what it held, and no checkpoint was given since
pub record Unchanged (w v : Cluster) : Type 0 where
  pub nodes : (i : ℕ) → v.nodes i ≡ w.nodes i
  pub images : (i : ℕ) → v.images i ≡ w.images i
  pub given : v.given ≡ w.given

-- A call that is refused by another number than 19, 20 and 21 changes nothing.
abbrev pub RefusalsChangeNothing : Type 0
RefusalsChangeNothing = (w : Cluster) (c : Call) (k : ℕ) → (run w c).answer ≡ some k → Refusal k → ¬ AddsMiss k → Unchanged w (run w c).after

-- host i held node n and holds node m; nothing else changed
pub record NodeChanged (w v : Cluster) (i : ℕ) (n m : Node) : Type 0 where
  pub held : w.nodes i ≡ some n
  pub holds : v.nodes i ≡ some m
  pub others : (j : ℕ) → j ≢ i → v.nodes j ≡ w.nodes j
  pub images : (j : ℕ) → v.images j ≡ w.images j
  pub given : v.given ≡ w.given

-- host i held a well-formed image, of node n, and holds the image of node m; nothing else changed
pub record ImageChanged (w v : Cluster) (i : ℕ) (n m : Node) : Type 0 where
  pub image : List ℕ
  pub held : w.images i ≡ some image
  pub read : is_image image ≡ true
  pub node : (read_image image).node ≡ n
  pub holds : v.images i ≡ some (image_bytes m)
  pub others : (j : ℕ) → j ≢ i → v.images j ≡ w.images j
  pub nodes : (j : ℕ) → v.nodes j ≡ w.nodes j
  pub given : v.given ≡ w.given

abbrev pub Changed : Cluster → Cluster → Host → Node → Node → Type 0
Changed w v (by_value i) n m = NodeChanged w v i n m
Changed w v (through_c i) n m = ImageChanged w v i n m

-- a query, whose bytes are qb, left its host's node with f of its door; nothing else changed
pub record Counted (w v : Cluster) (h : Host) (qb : List ℕ) (f : ℕ → Node → Node) : Type 0 where
  pub query : Query
  pub read : read_query qb ≡ Some query
  pub node : Node
  pub changed : Changed w v h node (f query.door node)

-- only a query adds a miss, and it adds one, at its door
abbrev pub Missed : Cluster → Cluster → Call → Type 0
Missed w v (start h cb sb out) = ⊥
Missed w v (deliver h ab sb out) = ⊥
Missed w v (query h qb out) = Counted w v h qb one_miss_more
Missed w v (checkpoint h out) = ⊥

-- A call that is refused by 19, 20 or 21 is a query, and adds a miss at its door to the node of its host, and to no other door or node.
abbrev pub MissesAddOne : Type 0
MissesAddOne = (w : Cluster) (c : Call) (k : ℕ) → (run w c).answer ≡ some k → AddsMiss k → Missed w (run w c).after c

-- A query that is answered open clears the misses at its door of the node of its host, and no other.
abbrev pub OpenClearsOne : Type 0
OpenClearsOne = (w : Cluster) (h : Host) (qb out : List ℕ) → (run w (query h qb out)).answer ≡ accepted
    → Counted w (run w (query h qb out)).after h qb no_misses_at

-- ---- what slices hold

-- a call for C that was handed the slice out, and is refused, leaves the slice as it was
abbrev pub KeepsSlice : List ℕ → Returned → Type 0
KeepsSlice out x = Refusal x.number → x.slice ≡ out

-- Every refused call leaves its slice as it was, but for the image of a node with one miss more at the door that was asked.
pub record SlicesKept : Type 0 where
  pub start : (cb sb out : List ℕ) → KeepsSlice out (node_start cb sb out)
  pub deliver : (image ab sb out : List ℕ) → KeepsSlice out (node_deliver image ab sb out)
  pub query : (image qb out : List ℕ) → ¬ AddsMiss (node_query image qb out).number → KeepsSlice out (node_query image qb out)
  pub miss : (image qb out : List ℕ) → AddsMiss (node_query image qb out).number → (q : Query) × (read_query qb ≡ Some q)
      × ((node_query image qb out).slice ≡ overwrite (image_bytes (one_miss_more q.door (read_image image).node)) out)
  pub checkpoint : (image out : List ℕ) → KeepsSlice out (node_checkpoint image out)
  pub checkpoint-by-value : (n : Node) (out : List ℕ) (k : ℕ) → (checkpoint_of n out).answer ≡ Refused k → checkpoint_slice n out ≡ out
  -- what a page returns has its answer in the low 8 bits
  pub page : (image : List ℕ) (d : ℕ) (out : List ℕ) → (node_page image d out).number % 256 ≢ 0 → (node_page image d out).slice ≡ out
  pub page-by-value : (n : Node) (given : Day) (out : List ℕ) (k : ℕ) → (page_of n out).answer ≡ Page.Refused k → page_slice n given out ≡ out
  -- and so has what a roster's calls return
  pub roster-import : (roster : List ℕ) (c d : ℕ) (out : List ℕ) → (node_roster_import roster c d out).number % 256 ≢ 0
      → (node_roster_import roster c d out).slice ≡ out
  pub import-by-value : (text : List ℕ) (c : Cycle) (d : Day) (out : List ℕ) (r : Row.Refusal) → (import_of text c d out).answer ≡ Err r
      → (import_of text c d out).slice ≡ out
  pub roster-export : (announcement out : List ℕ) → (node_roster_export announcement out).number % 256 ≢ 0
      → (node_roster_export announcement out).slice ≡ out
  pub export-by-value : (announcement out : List ℕ) (r : Row.Refusal) → (export_of announcement out).answer ≡ Err r
      → (export_of announcement out).slice ≡ out
  -- and what a split returns
  pub shares-split : (key : List ℕ) (k n : ℕ) (cs out : List ℕ) → (node_shares_split key k n cs out).number % 256 ≢ 0
      → (node_shares_split key k n cs out).slice ≡ out
  pub split-by-value : (key : List ℕ) (k n : ℕ) (cs out : List ℕ) (r : Row.Refusal) → (split_of key k n cs out).answer ≡ Err r
      → (split_of key k n cs out).slice ≡ out
  pub shares-merge : (k n : ℕ) (numbers shares out : List ℕ) → KeepsSlice out (node_shares_merge k n numbers shares out)
  pub merge-by-value : (k n : ℕ) (numbers shares out : List ℕ) (r : Row.Refusal) → (merge_of k n numbers shares out).answer ≡ Err r
      → (merge_of k n numbers shares out).slice ≡ out
  pub shares-add : (first second out : List ℕ) → (node_shares_add first second out).number % 256 ≢ 0 → (node_shares_add first second out).slice ≡ out
  pub add-by-value : (first second out : List ℕ) (r : Row.Refusal) → (add_of first second out).answer ≡ Err r → (add_of first second out).slice ≡ out
