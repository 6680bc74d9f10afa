-- What a call leaves at its host, by value and through C.
use mathlib.Core.Path.{◌≡◌, refl, sym, ap, ◌∙◌, subst}
use mathlib.Core.Logic.{◌≢◌, ◌⊎◌, inl, inr}
use mathlib.Core.Bool.{Bool, true, false, cond}
use mathlib.Core.List.{List}
use mathlib.Core.Option.{Option, none, some, some-injective}
use Prim.Native.Nat.{ℕ, ◌≤◌}
use native.Mathlib.Omega.{arith}
use lib.Dec.{eqb, leb}
use lib.ListN.{length, take, drop}
use lib.Seq.{take_at}
use borrow.Author.Tests.{ne_eqb}
use Rattle.lists.proofs.Tests.{clash}
use Rattle.binary.specs.Number.{overwrite}
use Rattle.checkpoint.specs.Checkpoint.{checkpoint_bytes}
use Rattle.checkpoint.proofs.RoundTrips.{checkpoint-length}
use Rattle.node.specs.declared.Node.{Node}
use Rattle.node.specs.CheckpointAnswer.{Given, Refused}
use Rattle.node.specs.Answers.{checkpoint_number}
use Rattle.checkpoint.specs.Layout.{checkpoint_size}
use Rattle.node.specs.Checkpoint.{checkpoint_of, checkpoint_slice}
use Rattle.image.specs.Layout.{image_size}
use Rattle.image.specs.Image.{image_bytes, read_image}
use Rattle.node.specs.WellFormed.{WellFormedNode}
use Rattle.node_c.specs.Claims.{Writes, Returning, no_room, writes, leaves}
use Rattle.image.proofs.RoundTrips.{image-length}
use Rattle.node_c.proofs.Calls.{calls-return, writes-to, leaves_to}
use Rattle.node_c.specs.Calls.{HandedBack, delivered, asked, started, Returned, return, on_image, node_start, node_deliver, node_query, node_checkpoint}
use Rattle.agreement.specs.History.{Host, by_value, through_c, start, deliver, query, checkpoint, Cluster, Outcome, image_node, node_at, put_node}
use Rattle.agreement.specs.History.{put_image, answers, on_node, on_held_image, keep_image, give, keep_checkpoint, checkpoint_node, checkpoint_image}
use Rattle.agreement.specs.History.{run}

-- the cluster with this node at the host
abbrev pub leave : Cluster → Host → Node → Cluster
leave w (by_value i) n = put_node w i n
leave w (through_c i) n = put_image w i (image_bytes n)

-- ---- a call on the node that a host holds

-- by value or through C
abbrev pub on_host : Cluster → Host → (Node → HandedBack) → List ℕ → Outcome
on_host w (by_value i) f out = on_node w i f (w.nodes i)
on_host w (through_c i) f out = on_held_image w i (λ b. on_image f b out) (w.images i)

pub run-deliver : (w : Cluster) (h : Host) (ab sb out : List ℕ) → run w (deliver h ab sb out) ≡ on_host w h (delivered ab sb) out
unfolding run node_deliver
run-deliver w (by_value i) ab sb out = refl
run-deliver w (through_c i) ab sb out = refl

pub run-query : (w : Cluster) (h : Host) (qb out : List ℕ) → run w (query h qb out) ≡ on_host w h (asked qb) out
unfolding run node_query
run-query w (by_value i) qb out = refl
run-query w (through_c i) qb out = refl

-- ---- what a call for C returns

-- the front of a slice that bytes were written to
pub front : (bytes out : List ℕ) (n : ℕ) → length bytes ≡ n → take n (overwrite bytes out) ≡ bytes
unfolding overwrite
front bytes out n e = take_at bytes (drop (length bytes) out) n e

-- the cluster is as it was, or host i holds the image of the node that the call by value handed back, whose number is the answer
abbrev pub Kept : Cluster → ℕ → HandedBack → Outcome → Type 0
Kept w i r x = (x.after ≡ w) ⊎ (Writes r.number × (x ≡ answers r.number (put_image w i (image_bytes r.node))))

-- no image is written with 1 or 22
pub not_written : {k : ℕ} → Writes k → (k ≢ 1) × (k ≢ 22)
not_written (inl e) = (λ z. omega arith, λ z. omega arith)
not_written (inr (inl e)) = (λ z. omega arith, λ z. omega arith)
not_written (inr (inr m)) = (λ z. omega arith, λ z. omega arith)

-- a call that returns a number with which an image is written handed back that number, and writes the image of its node
pub written-return : (r : HandedBack) (out : List ℕ) → Writes (return r out).number
    → return r out ≡ record { number = r.number; slice = overwrite (image_bytes r.node) out }
written-return r out = at (return r out) (calls-return r out)
  where
    at : (x : Returned) → Returning r out x → Writes x.number → x ≡ record { number = r.number; slice = overwrite (image_bytes r.node) out }
    at x (no_room l a b e) v = absurd ((not_written v).1 (ap (λ (y : Returned). y.number) e))
    at x (writes l y e) v = e
    at x (leaves n p e) v = absurd (n (subst Writes (ap (λ (y : Returned). y.number) e) v))

module _ (w : Cluster) (i : ℕ) (r : HandedBack) (out : List ℕ) (fine : Writes r.number → WellFormedNode r.node) where
  -- with these bytes kept or not
  held : Bool → List ℕ → Cluster
  held b image = cond b (put_image w i image) w

  -- what a call that writes leaves
  written : (x : Returned) → Writes r.number → x ≡ record { number = r.number; slice = overwrite (image_bytes r.node) out }
      → keep_image w i x ≡ answers r.number (put_image w i (image_bytes r.node))
  unfolding held
  written x v e =
      ap (keep_image w i) e
      ∙ ap (λ (b : Bool). answers r.number (held b (take image_size (overwrite (image_bytes r.node) out)))) (writes-to r.number v)
      ∙ ap (λ (image : List ℕ). answers r.number (put_image w i image))
      (front (image_bytes r.node) out image_size (image-length r.node (fine v).fits))

  by-returning : (x : Returned) → Returning r out x → Kept w i r (keep_image w i x)
  unfolding held
  by-returning x (no_room l a b e) = inl (ap (λ (y : Returned). (keep_image w i y).after) e)
  by-returning x (writes l v e) = inr (v, written x v e)
  by-returning x (leaves n p e) = inl
      (ap (λ (y : Returned). (keep_image w i y).after) e ∙ ap (λ (b : Bool). held b (take image_size out)) (leaves_to r.number n))

  -- a call that returns such a number leaves it
  returned-written : (k : ℕ) → Writes k → (return r out).number ≡ k
      → (r.number ≡ k) × (keep_image w i (return r out) ≡ answers r.number (put_image w i (image_bytes r.node)))
  returned-written k v z =
      let e = written-return r out (subst Writes (sym z) v) in
      let same : r.number ≡ k = sym (ap (λ (y : Returned). y.number) e) ∙ z in
      (same, written (return r out) (subst Writes (sym same) v) e)

  pub kept : Kept w i r (keep_image w i (return r out))
  kept = by-returning (return r out) (calls-return r out)

-- ---- a call on the node that a host holds

-- the node that a held image is read as
held-image : (b : List ℕ) (n : Node) → image_node (some b) ≡ some n → ((read_image b).ok ≡ true) × ((read_image b).node ≡ n)
held-image b n = go (read_image b).ok refl
  where
    go : (t : Bool) → (read_image b).ok ≡ t → cond t (some (read_image b).node) none ≡ some n → ((read_image b).ok ≡ true) × ((read_image b).node ≡ n)
    go true e f = (e, some-injective (read_image b).node n f)
    go false e f = clash (cc)

pub on-image : (f : Node → HandedBack) (b out : List ℕ) (n : Node) → image_node (some b) ≡ some n → on_image f b out ≡ return (f n) out
unfolding on_image
on-image f b out n e = let h = held-image b n e in rw (h.0, h.1)

unread : (f : Node → HandedBack) (b out : List ℕ) → (read_image b).ok ≡ false → on_image f b out ≡ record { number = 1; slice = out }
unfolding on_image
unread f b out e = rw e

-- a call that is answered 0 handed back 0
pub heard : (w : Cluster) (h : Host) (f : Node → HandedBack) (out : List ℕ) (n : Node) → node_at w h ≡ some n → (on_host w h f out).answer ≡ some 0
    → (f n).number ≡ 0
heard w (by_value i) f out n e a = some-injective (f n).number 0 (ap (λ (o : Option Node). (on_node w i f o).answer) (sym e) ∙ a)
heard w (through_c i) f out n e a = go (w.images i) e a
  where
    go : (o : Option (List ℕ)) → image_node o ≡ some n → (on_held_image w i (λ b. on_image f b out) o).answer ≡ some 0 → (f n).number ≡ 0
    go none e a = clash (cc)
    go (some b) e a =
        let said : (return (f n) out).number ≡ 0 =
        ap (λ (r : Returned). r.number) (sym (on-image f b out n e)) ∙ some-injective (on_image f b out).number 0 a in
        sym (ap (λ (r : Returned). r.number) (written-return (f n) out (inl said))) ∙ said

-- the host holds a node, and the call leaves what f hands back of it, with its number as the answer
pub record Left (w : Cluster) (h : Host) (f : Node → HandedBack) (x : Outcome) : Type 0 where
  pub node : Node
  pub held : node_at w h ≡ some node
  pub after : x.after ≡ leave w h (f node).node
  pub answered : x.answer ≡ some (f node).number

-- a call leaves the cluster as it was, or what f hands back
pub ran : (w : Cluster) (h : Host) (f : Node → HandedBack) (out : List ℕ) → ((n : Node) → node_at w h ≡ some n → WellFormedNode (f n).node)
    → ((on_host w h f out).after ≡ w) ⊎ Left w h f (on_host w h f out)
ran w (by_value i) f out fine = go (w.nodes i) refl
  where
    go : (o : Option Node) → w.nodes i ≡ o → ((on_node w i f o).after ≡ w) ⊎ Left w (by_value i) f (on_node w i f o)
    go none e = inl refl
    go (some n) e = inr (record { node = n; held = e; after = refl; answered = refl })
ran w (through_c i) f out fine = go (w.images i) refl
  where
    g : List ℕ → Returned
    g b = on_image f b out

    go : (o : Option (List ℕ)) → w.images i ≡ o → ((on_held_image w i g o).after ≡ w) ⊎ Left w (through_c i) f (on_held_image w i g o)
    go none e = inl refl
    go (some b) e = read (read_image b).ok refl
      where
        x : Outcome
        x = keep_image w i (on_image f b out)

        -- the image is read as n
        with : (n : Node) → node_at w (through_c i) ≡ some n → on_image f b out ≡ return (f n) out
            → Kept w i (f n) (keep_image w i (return (f n) out)) → (x.after ≡ w) ⊎ Left w (through_c i) f x
        with n held q (inl k) = inl (ap (λ (r : Returned). (keep_image w i r).after) q ∙ k)
        with n held q (inr k) =
            let y : x ≡ answers (f n).number (put_image w i (image_bytes (f n).node)) = ap (keep_image w i) q ∙ k.1 in
            inr (record { node = n; held = held; after = ap (λ (z : Outcome). z.after) y; answered = ap (λ (z : Outcome). z.answer) y })

        read : (t : Bool) → (read_image b).ok ≡ t → (x.after ≡ w) ⊎ Left w (through_c i) f x
        read true t =
            let n = (read_image b).node in
            let is : image_node (some b) ≡ some n = rw t in
            let held : node_at w (through_c i) ≡ some n = ap image_node e ∙ is in
            with n held (on-image f b out n is) (kept w i (f n) out (λ h. fine n held))
        read false t = inl (ap (λ (r : Returned). (keep_image w i r).after) (unread f b out t))

-- a call that is answered by a number with which an image is written leaves what f hands back
pub written-left : (w : Cluster) (h : Host) (f : Node → HandedBack) (out : List ℕ) (n : Node) → WellFormedNode (f n).node → node_at w h ≡ some n
    → (k : ℕ) → Writes k → (on_host w h f out).answer ≡ some k → ((f n).number ≡ k) × ((on_host w h f out).after ≡ leave w h (f n).node)
written-left w (by_value i) f out n fine e k y a = (
  some-injective (f n).number k (ap (λ (o : Option Node). (on_node w i f o).answer) (sym e) ∙ a),
  ap (λ (o : Option Node). (on_node w i f o).after) e,
)
written-left w (through_c i) f out n fine e k y a = go (w.images i) e a
  where
    go : (o : Option (List ℕ)) → image_node o ≡ some n → (on_held_image w i (λ b. on_image f b out) o).answer ≡ some k
        → ((f n).number ≡ k) × ((on_held_image w i (λ b. on_image f b out) o).after ≡ leave w (through_c i) (f n).node)
    go none e a = clash (cc)
    go (some b) e a =
        let q = on-image f b out n e in
        let said = ap (λ (r : Returned). r.number) (sym q) ∙ some-injective (on_image f b out).number k a in
        let t = returned-written w i (f n) out (λ v. fine) k y said in
        (t.0, ap (λ (r : Returned). (keep_image w i r).after) q ∙ ap (λ (x : Outcome). x.after) t.1)

-- ---- start

-- by value or through C
abbrev pub start_by : Cluster → Host → HandedBack → List ℕ → Outcome
start_by w (by_value i) r out = answers r.number (cond (eqb r.number 0) (put_node w i r.node) w)
start_by w (through_c i) r out = keep_image w i (return r out)

pub run-start : (w : Cluster) (h : Host) (cb sb out : List ℕ) → run w (start h cb sb out) ≡ start_by w h (started cb sb) out
unfolding run node_start
run-start w (by_value i) cb sb out = refl
run-start w (through_c i) cb sb out = refl

-- no image is written for the refusals of a start
no-image : (k : ℕ) → 1 ≤ k → k ≤ 14 → ¬ Writes k
no-image k lo hi (inl e) = omega arith
no-image k lo hi (inr (inl e)) = omega arith
no-image k lo hi (inr (inr m)) = omega arith

pub start-refused : (w : Cluster) (h : Host) (r : HandedBack) (out : List ℕ) → 1 ≤ r.number → r.number ≤ 14 → (start_by w h r out).after ≡ w
start-refused w (by_value i) r out lo hi = rw (ne_eqb r.number 0 (λ e. omega arith))
start-refused w (through_c i) r out lo hi = go (kept w i r out (λ v. absurd (no-image r.number lo hi v)))
  where
    go : Kept w i r (keep_image w i (return r out)) → (keep_image w i (return r out)).after ≡ w
    go (inl e) = e
    go (inr p) = absurd (no-image r.number lo hi p.0)

pub start-accepted : (w : Cluster) (h : Host) (r : HandedBack) (out : List ℕ) → r.number ≡ 0 → WellFormedNode r.node
    → ((start_by w h r out).after ≡ w) ⊎ (start_by w h r out ≡ answers 0 (leave w h r.node))
start-accepted w (by_value i) r out z f = inr (ap (λ (k : ℕ). answers k (cond (eqb k 0) (put_node w i r.node) w)) z)
start-accepted w (through_c i) r out z f = go (kept w i r out (λ v. f))
  where
    go : Kept w i r (keep_image w i (return r out))
        → ((keep_image w i (return r out)).after ≡ w) ⊎ (keep_image w i (return r out) ≡ answers 0 (put_image w i (image_bytes r.node)))
    go (inl e) = inl e
    go (inr p) = inr (p.1 ∙ ap (λ (k : ℕ). answers k (put_image w i (image_bytes r.node))) z)

-- ---- checkpoint

-- the bytes given are the checkpoint of the node's state
gave : (w : Cluster) (n : Node) (out : List ℕ) → WellFormedNode n
    → ((keep_checkpoint w (checkpoint_number (checkpoint_of n out).answer) (checkpoint_slice n out)).after ≡ w)
    ⊎ ((keep_checkpoint w (checkpoint_number (checkpoint_of n out).answer) (checkpoint_slice n out)).after ≡ give w (checkpoint_bytes n.state))
unfolding checkpoint_of checkpoint_slice
gave w n out f = go (leb checkpoint_size (length out))
  where
    after : Bool → Cluster
    after b = (keep_checkpoint w (checkpoint_number (cond b Given (Refused 22))) (cond b (overwrite (checkpoint_bytes n.state) out) out)).after

    go : (b : Bool) → (after b ≡ w) ⊎ (after b ≡ give w (checkpoint_bytes n.state))
    go true = inr (ap (give w) (front (checkpoint_bytes n.state) out checkpoint_size (checkpoint-length n.state f.fits.0)))
    go false = inl refl

-- the host holds a node, and the call gives its checkpoint
pub record Gave (w : Cluster) (h : Host) (after : Cluster) : Type 0 where
  pub node : Node
  pub held : node_at w h ≡ some node
  pub given : after ≡ give w (checkpoint_bytes node.state)

gave-held : (w : Cluster) (h : Host) (n : Node) (after : Cluster) → node_at w h ≡ some n
    → (after ≡ w) ⊎ (after ≡ give w (checkpoint_bytes n.state)) → (after ≡ w) ⊎ Gave w h after
gave-held w h n after e (inl k) = inl k
gave-held w h n after e (inr k) = inr (record { node = n; held = e; given = k })

pub run-checkpoint : (w : Cluster) (h : Host) (out : List ℕ) → ((n : Node) → node_at w h ≡ some n → WellFormedNode n)
    → ((run w (checkpoint h out)).after ≡ w) ⊎ Gave w h (run w (checkpoint h out)).after
unfolding run node_checkpoint
run-checkpoint w (by_value i) out fine = go (w.nodes i) refl
  where
    go : (o : Option Node) → w.nodes i ≡ o → ((checkpoint_node w out o).after ≡ w) ⊎ Gave w (by_value i) (checkpoint_node w out o).after
    go none e = inl refl
    go (some n) e = gave-held w (by_value i) n _ e (gave w n out (fine n e))
run-checkpoint w (through_c i) out fine = go (w.images i) refl
  where
    go : (o : Option (List ℕ)) → w.images i ≡ o → ((checkpoint_image w out o).after ≡ w) ⊎ Gave w (through_c i) (checkpoint_image w out o).after
    go none e = inl refl
    go (some b) e = read (read_image b).ok refl
      where
        -- by whether the image is read
        x : Bool → Cluster
        x t =
            let n = (read_image b).node in
            let r : Returned = cond t (record { number = checkpoint_number (checkpoint_of n out).answer; slice = checkpoint_slice n out })
            (record { number = 1; slice = out }) in
            (keep_checkpoint w r.number r.slice).after

        read : (t : Bool) → (read_image b).ok ≡ t → (x t ≡ w) ⊎ Gave w (through_c i) (x t)
        read true t =
            let n = (read_image b).node in
            let held : node_at w (through_c i) ≡ some n = ap image_node e ∙ rw t in
            gave-held w (through_c i) n _ held (gave w n out (fine n held))
        read false t = inl refl
