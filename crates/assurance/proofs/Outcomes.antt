-- What a call comes to at a host whose images are all read: its answer, and the node that it leaves, by value and through C.
use mathlib.Core.Path.{◌≡◌, refl, sym, ap, ◌∙◌}
use mathlib.Core.Bool.{Bool, true, false, cond}
use mathlib.Core.List.{List}
use mathlib.Core.Option.{Option, none, some}
use Prim.Native.Nat.{ℕ}
use lib.Dec.{eqb, leb}
use lib.ListN.{length, take}
use Rattle.lists.proofs.Tests.{clash}
use Rattle.binary.specs.Number.{Bytes, overwrite}
use Rattle.node.specs.declared.Node.{Node}
use Rattle.node.specs.WellFormed.{WellFormedNode}
use Rattle.node.proofs.WellFormedNodes.{start-makes-well-formed}
use Rattle.image.specs.Layout.{image_size}
use Rattle.image.specs.Image.{image_bytes, read_image}
use Rattle.image.proofs.RoundTrips.{image-length}
use Rattle.node_c.specs.Calls.{HandedBack, started, try_room, writes_image, return, on_image, node_checkpoint}
use Rattle.node_c.proofs.Calls.{writes-in-room}
use Rattle.node_c.proofs.Kept.{start-accepted}
use Rattle.agreement.specs.History.{Host, by_value, through_c, checkpoint, Cluster, image_node}
use Rattle.agreement.specs.History.{node_at, put_image, answers, unanswered, on_held_image, keep_image, checkpoint_node, checkpoint_image, run}
use Rattle.agreement.proofs.Calls.{leave, on_host, on-image, front, start_by}

-- the number that it answers, and whether it leaves the node that is handed back
abbrev pub number_at : Host → List ℕ → ℕ → ℕ
number_at (by_value i) out k = k
number_at (through_c i) out k = try_room (leb image_size (length out)) k

abbrev pub leaves_at : Host → List ℕ → ℕ → Bool
leaves_at (by_value i) out k = true
leaves_at (through_c i) out k = writes_image (try_room (leb image_size (length out)) k)

-- the image that a call for C leaves is that of the node handed back
kept-image : (w : Cluster) (i : ℕ) (r : HandedBack) (out : List ℕ)
    → let k = try_room (leb image_size (length out)) r.number in
    (writes_image k ≡ true → WellFormedNode r.node)
    → keep_image w i (return r out) ≡ answers k (cond (writes_image k) (put_image w i (image_bytes r.node)) w)
unfolding return
kept-image w i r out fine = at (writes_image k) refl
  where
    k : ℕ
    k = try_room (leb image_size (length out)) r.number

    at : (b : Bool) → writes_image k ≡ b
        → answers k (cond b (put_image w i (take image_size (cond b (overwrite (image_bytes r.node) out) out))) w)
        ≡ answers k (cond b (put_image w i (image_bytes r.node)) w)
    at true e = ap (λ (l : List ℕ). answers k (put_image w i l)) (front (image_bytes r.node) out image_size (image-length r.node (fine e).fits))
    at false e = refl

-- what a call on a held node comes to, where the node that it hands back is well formed
pub on_some : (w : Cluster) (g : Host) (f : Node → HandedBack) (out : List ℕ) (n : Node) → node_at w g ≡ some n → WellFormedNode (f n).node
    → on_host w g f out ≡ answers (number_at g out (f n).number) (cond (leaves_at g out (f n).number) (leave w g (f n).node) w)
on_some w (by_value i) f out n e fine = rw e
on_some w (through_c i) f out n e fine = at (w.images i) e
  where
    k : ℕ
    k = try_room (leb image_size (length out)) (f n).number

    at : (o : Option (List ℕ)) → image_node o ≡ some n
        → on_held_image w i (λ b. on_image f b out) o ≡ answers k (cond (writes_image k) (put_image w i (image_bytes (f n).node)) w)
    at none e = clash (cc)
    at (some b) e = rw (on-image f b out n e) (kept-image w i (f n) out (λ _. fine))

-- every image that is held is read
abbrev pub Reads : Cluster → Type 0
Reads w = (i : ℕ) (b : List ℕ) → w.images i ≡ some b → (read_image b).ok ≡ true

pub on_none : (w : Cluster) (g : Host) (f : Node → HandedBack) (out : List ℕ) → Reads w → node_at w g ≡ none → on_host w g f out ≡ unanswered w
on_none w (by_value i) f out reads e = rw e
on_none w (through_c i) f out reads e = at (w.images i) refl e
  where
    at : (o : Option (List ℕ)) → w.images i ≡ o → image_node o ≡ none → on_held_image w i (λ b. on_image f b out) o ≡ unanswered w
    at none q e = refl
    at (some b) q e = let z : some (read_image b).node ≡ none = sym (rw (reads i b q)) ∙ e in clash (cc)

-- a start leaves its node where it writes one
unfoldable pub start_leaves : Host → List ℕ → ℕ → Bool
start_leaves (by_value i) out k = eqb k 0
start_leaves (through_c i) out k = writes_image (try_room (leb image_size (length out)) k)

pub started-by : (w : Cluster) (g : Host) (r : HandedBack) (out : List ℕ) → (start_leaves g out r.number ≡ true → WellFormedNode r.node)
    → start_by w g r out ≡ answers (number_at g out r.number) (cond (start_leaves g out r.number) (leave w g r.node) w)
unfolding start_leaves
started-by w (by_value i) r out fine = refl
started-by w (through_c i) r out fine = kept-image w i r out fine

-- the node of a start that leaves it is well formed: a refusal writes no image
pub start-writes : (g : Host) (out : List ℕ) (k : ℕ) → start_leaves g out k ≡ true → writes_image k ≡ true
unfolding start_leaves
start-writes (by_value i) out k e = rw e
start-writes (through_c i) out k e = (writes-in-room (leb image_size (length out)) k e).1

pub starting-fine : (cb sb : List ℕ) → Bytes cb → Bytes sb → writes_image (started cb sb).number ≡ true → WellFormedNode (started cb sb).node
starting-fine cb sb hc hs w = start-makes-well-formed cb sb hc hs (start-accepted cb sb w)

-- a checkpoint of the node that a host holds
pub run-checkpoint : (w : Cluster) (g : Host) (out : List ℕ) → Reads w → run w (checkpoint g out) ≡ checkpoint_node w out (node_at w g)
unfolding run node_checkpoint
run-checkpoint w (by_value i) out reads = refl
run-checkpoint w (through_c i) out reads = at (w.images i) refl
  where
    at : (o : Option (List ℕ)) → w.images i ≡ o → checkpoint_image w out o ≡ checkpoint_node w out (image_node o)
    at none q = refl
    at (some b) q = rw (reads i b q)
