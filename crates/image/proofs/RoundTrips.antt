-- The image of a node and the node of an image, and the two claims.
use Prim.Native.Nat.{ℕ, zero, suc, ◌≤◌}
use native.Mathlib.Omega.{arith}
use mathlib.Core.Path.{◌≡◌, refl, sym, ap, ap₂, subst, ◌∙◌}
use mathlib.Core.Bool.{Bool, true, false, cond, and-eq-true_iff}
use mathlib.Core.List.{List, ◌++◌}
use lib.Dec.{eqb, leb}
use lib.ListN.{length, take, drop, length-append, length-drop, take-append-drop}
use lib.Seq.{take_at, drop_at}
use borrow.Author.Tests.{eqb-true, eq-eqb, leb-true}
use Rattle.binary.specs.Number.{Bytes}
use Rattle.binary.proofs.Number.{bytes_take, bytes_drop}
use Rattle.binary.proofs.Codec.{Laws, byte_laws, number-laws, onto-laws, rows-laws, read_back, written_back, ◌⊗-laws◌}
use Rattle.state.specs.WellFormed.{is_well_formed}
use Rattle.records.specs.Layout.{announcement_size, door_count}
use Rattle.checkpoint.specs.Layout.{checkpoint_size}
use Rattle.checkpoint.specs.Format.{current}
use Rattle.checkpoint.specs.Checkpoint.{checkpoint_bytes, decode_as}
use Rattle.checkpoint.specs.Claims.{ReadState}
use Rattle.checkpoint.proofs.RoundTrips.{checkpoint-length, checkpoint-decoded, checkpoint-accepted, decoded-state}
use Rattle.verdicts.specs.Attempts.{are_in_range}
use Rattle.node.specs.declared.Node.{Node}
use Rattle.node.specs.WellFormed.{own_fields, fields_of, own_of, counts_of, Fits, is_well_formed_own}
use Rattle.image.specs.Layout.{image_size, own_at}
use Rattle.image.specs.Image.{image_bytes, decode_image, is_image, read_image}
use Rattle.image.specs.Claims.{ReadNode, NodeReadBack, ImageWrittenBack, ImageLaidOut}

own-laws : Laws own_fields
own-laws =
    onto-laws _ _ (λ _. refl) (λ _. refl)
    ((byte_laws ⊗-laws number-laws 4) ⊗-laws (byte_laws ⊗-laws rows-laws byte_laws announcement_size) ⊗-laws rows-laws byte_laws door_count)

-- The voted flag's byte is 0 or 1, and tells the flag.
flag_small : (voted : Bool) → leb (cond voted 1 0) 1 ≡ true
flag_small true = refl
flag_small false = refl

flag-back : (voted : Bool) → eqb (cond voted 1 0) 1 ≡ voted
flag-back true = refl
flag-back false = refl

flag-forth : (x : ℕ) → x ≤ 1 → cond (eqb x 1) 1 0 ≡ x
flag-forth zero h = refl
flag-forth (suc zero) h = refl
flag-forth (suc (suc x)) h = absurd (omega arith)

-- What is written of a node that fits: its two parts, and what they are read as.
module _ (n : Node) (h : Fits n) where
  state-length : length (checkpoint_bytes n.state) ≡ checkpoint_size
  state-length = checkpoint-length n.state h.0

  pub image-length : length (image_bytes n) ≡ image_size
  unfolding image_bytes
  image-length = rw (length-append, state-length, own-laws.reads.long (fields_of n.own n.counts) h.1)

  state-part : take checkpoint_size (image_bytes n) ≡ checkpoint_bytes n.state
  unfolding image_bytes
  state-part = take_at _ _ checkpoint_size state-length

  own-part : drop own_at (image_bytes n) ≡ own_fields.encode (fields_of n.own n.counts)
  unfolding image_bytes
  own-part = drop_at (checkpoint_bytes n.state) _ own_at state-length

  own-decoded : own_fields.decode (drop own_at (image_bytes n)) ≡ fields_of n.own n.counts
  own-decoded = rw own-part (read_back own-laws.reads (fields_of n.own n.counts) h.1)

  image-decoded : decode_image (image_bytes n) ≡ n
  unfolding decode_image
  image-decoded =
      let s = ap (decode_as current) state-part ∙ checkpoint-decoded n.state h.0 in
      let o : own_of (own_fields.decode (drop own_at (image_bytes n))) ≡ n.own = ap own_of own-decoded ∙ rw flag-back in
      let c = ap counts_of own-decoded in
      λ i. record { state = (s i).state; own = o i; counts = c i }

  image-accepted : is_well_formed n.state ≡ true → is_well_formed_own n.state n.own ≡ true → are_in_range n.counts ≡ true
      → is_image (image_bytes n) ≡ true
  unfolding is_image
  image-accepted s o c =
      let v : leb (own_fields.decode (drop own_at (image_bytes n))).flag 1 ≡ true =
      rw (ap {B = ℕ} (λ p. p.flag) own-decoded) (flag_small n.own.voted) in
      simp (and-eq-true_iff, image-decoded, state-part) (eq-eqb _ _ image-length, (checkpoint-accepted n.state h.0 s, (v, (o, c))))

pub node-read-back : NodeReadBack
unfolding read_image
node-read-back n w = rw (image-accepted n w.fits w.state w.own w.counts, image-decoded n w.fits)

-- Bytes that are accepted are as many as an image has.
pub image-size : (b : List ℕ) → is_image b ≡ true → length b ≡ image_size
unfolding is_image
image-size b e = eqb-true _ _ (simp and-eq-true_iff at e).0

-- What is read from bytes that are accepted: first the state.
pub image-state : (b : List ℕ) → Bytes b → is_image b ≡ true → ReadState (take checkpoint_size b) (decode_image b).state
unfolding is_image decode_image
image-state b h e = let t = simp and-eq-true_iff at e in decoded-state (take checkpoint_size b) (bytes_take checkpoint_size b h) t.1.0

-- t is what the tests tell, s the state, p the fields of the own part
decoded-node : (b : List ℕ) → Bytes b → is_image b ≡ true → ReadNode b (decode_image b)
unfolding is_image decode_image image_bytes
decoded-node b h e =
    let t = simp and-eq-true_iff at e in
    let s = image-state b h e in
    let d = drop own_at b in
    let g = bytes_drop own_at b h in
    let n : length d ≡ own_fields.width = rw length-drop (omega (arith, image-size b e)) in
    let p = own_fields.decode d in
    let v = flag-forth p.flag (leb-true _ _ t.1.1.0) in
    let f : fields_of (own_of p) (counts_of p) ≡ p = λ i. record { seat = p.seat; life = p.life; flag = v i; vote = p.vote; misses = p.misses } in
    record {
      well-formed = record {
        fits = (s.fits, subst own_fields.Fits (sym f) (own-laws.fits d (omega arith) g));
        state = s.well-formed;
        own = t.1.1.1.0;
        counts = t.1.1.1.1;
      };
      written_back = ap₂ ◌++◌ s.written_back (ap own_fields.encode f ∙ written_back own-laws d n g) ∙ take-append-drop own_at b;
    }

pub image-written-back : ImageWrittenBack
unfolding read_image
image-written-back b h e = rw e (decoded-node b h e)

pub image-laid-out : ImageLaidOut
image-laid-out = (refl, refl)
