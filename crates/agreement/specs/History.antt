-- "The list holds start, deliver, query and checkpoint calls, each at one of any number of hubs": what they leave behind, run from empty hubs.
use Rattle.std.specs.Prelude.{cond, List, [], ◌∷◌, ℕ, eqb, take}
use Rattle.std.proofs.Math.Option.{Option, none, some}
use Rattle.node.specs.declared.Node.{Node}
use Rattle.node.specs.Answers.{checkpoint_number}
use Rattle.checkpoint.specs.Layout.{checkpoint_size}
use Rattle.node.specs.Checkpoint.{checkpoint_of, checkpoint_slice}
use Rattle.image.specs.Layout.{image_size}
use Rattle.image.specs.Image.{read_image}
use Rattle.node_c.specs.Calls.{HandedBack, started, delivered, asked, Returned, writes_image, node_start, node_deliver, node_query, node_checkpoint}

-- A host (01: hub). "a hub's calls are all by value or all through C": its name says which.
pub data Host : Type 0 where
  by_value : ℕ → Host
  through_c : ℕ → Host

-- A call: its host, the records that it is handed, and the slice that it may write. By value only checkpoint writes one.
pub data Call : Type 0 where
  start : (host : Host) (checkpoint seat out : List ℕ) → Call
  deliver : (host : Host) (announcement sheet out : List ℕ) → Call
  query : (host : Host) (question out : List ℕ) → Call
  checkpoint : (host : Host) (out : List ℕ) → Call

-- The numbers that are no refusal: started, performed, open or given; voted.
abbrev pub accepted : Option ℕ
accepted = some 0

abbrev pub voted : Option ℕ
voted = some 128

-- A history (01: list of calls).
abbrev pub History : Type 0
History = List Call

-- A cluster (01: park): what its hosts hold, nodes by value and images through C, and the checkpoints given so far, the last one first.
pub record Cluster : Type 0 where
  pub nodes : ℕ → Option Node
  pub images : ℕ → Option (List ℕ)
  pub given : List (List ℕ)

-- "At first no hub holds a node"
abbrev pub empty : Cluster
empty = record { nodes = λ i. none; images = λ i. none; given = [] }

-- the node in an image, where it is well formed
abbrev pub image_node : Option (List ℕ) → Option Node
image_node none = none
image_node (some b) = cond (read_image b).ok (some (read_image b).node) none

-- the node that a host holds
abbrev pub node_at : Cluster → Host → Option Node
node_at w (by_value i) = w.nodes i
node_at w (through_c i) = image_node (w.images i)

abbrev pub put : {A : Type 0} → (ℕ → Option A) → ℕ → A → ℕ → Option A
put f i x = λ j. cond (eqb j i) (some x) (f j)

abbrev pub put_node : Cluster → ℕ → Node → Cluster
put_node w i n = record { nodes = put w.nodes i n; images = w.images; given = w.given }

abbrev pub put_image : Cluster → ℕ → List ℕ → Cluster
put_image w i b = record { nodes = w.nodes; images = put w.images i b; given = w.given }

abbrev pub give : Cluster → List ℕ → Cluster
give w b = record { nodes = w.nodes; images = w.images; given = b ∷ w.given }

-- A call's answer by its number, none where its host holds no node ("a hub gets only starts until one is accepted"), and the cluster that it leaves.
pub record Outcome : Type 0 where
  pub answer : Option ℕ
  pub after : Cluster

abbrev pub answers : ℕ → Cluster → Outcome
answers k w = record { answer = some k; after = w }

abbrev pub unanswered : Cluster → Outcome
unanswered w = record { answer = none; after = w }

-- a call by value on the node that host i holds
abbrev pub on_node : Cluster → ℕ → (Node → HandedBack) → Option Node → Outcome
on_node w i f none = unanswered w
on_node w i f (some n) = answers (f n).number (put_node w i (f n).node)

-- what a call for C left at host i: "C hands on the image it last got."
abbrev pub keep_image : Cluster → ℕ → Returned → Outcome
keep_image w i r = answers r.number (cond (writes_image r.number) (put_image w i (take image_size r.slice)) w)

-- a call for C on the image that host i holds
abbrev pub on_held_image : Cluster → ℕ → (List ℕ → Returned) → Option (List ℕ) → Outcome
on_held_image w i f none = unanswered w
on_held_image w i f (some b) = keep_image w i (f b)

-- the bytes that a checkpoint call "wrote as its checkpoint"
abbrev pub keep_checkpoint : Cluster → ℕ → List ℕ → Outcome
keep_checkpoint w k slice = answers k (cond (eqb k 0) (give w (take checkpoint_size slice)) w)

abbrev pub checkpoint_node : Cluster → List ℕ → Option Node → Outcome
checkpoint_node w out none = unanswered w
checkpoint_node w out (some n) = keep_checkpoint w (checkpoint_number (checkpoint_of n out).answer) (checkpoint_slice n out)

abbrev pub checkpoint_image : Cluster → List ℕ → Option (List ℕ) → Outcome
checkpoint_image w out none = unanswered w
checkpoint_image w out (some b) = keep_checkpoint w (node_checkpoint b out).number (node_checkpoint b out).slice

-- "Every call but start gets the node or image that the last one at its hub left; a refused start leaves the hub as it was."
unfoldable pub run : Cluster → Call → Outcome
run w (start (by_value i) cb sb out) = let r = started cb sb in answers r.number (cond (eqb r.number 0) (put_node w i r.node) w)
run w (start (through_c i) cb sb out) = keep_image w i (node_start cb sb out)
run w (deliver (by_value i) ab sb out) = on_node w i (delivered ab sb) (w.nodes i)
run w (deliver (through_c i) ab sb out) = on_held_image w i (λ b. node_deliver b ab sb out) (w.images i)
run w (query (by_value i) qb out) = on_node w i (asked qb) (w.nodes i)
run w (query (through_c i) qb out) = on_held_image w i (λ b. node_query b qb out) (w.images i)
run w (checkpoint (by_value i) out) = checkpoint_node w out (w.nodes i)
run w (checkpoint (through_c i) out) = checkpoint_image w out (w.images i)

-- A moment of a history: the cluster that a call finds, and the call.
pub record Moment : Type 0 where
  pub before : Cluster
  pub call : Call

abbrev pub answer : Moment → Option ℕ
answer t = (run t.before t.call).answer

abbrev pub after : Moment → Cluster
after t = (run t.before t.call).after

unfoldable pub moments_from : Cluster → History → List Moment
moments_from w [] = []
moments_from w (c ∷ cs) = record { before = w; call = c } ∷ moments_from (run w c).after cs

-- the moments of a history, from empty hosts
abbrev pub moments : History → List Moment
moments calls = moments_from empty calls
