use Rattle.binary.specs.Number.{Bytes}
use Rattle.checkpoint.specs.Layout.{checkpoint_size}
use native.Mathlib.Omega.{arith}
use mathlib.Core.Bool.{true}
use mathlib.Core.Path.{◌≡◌, sym, ap, ◌∙◌}
use lib.ListN.{take}
use Rattle.checkpoint.specs.Claims.{ReadState}
use Rattle.node.specs.Answers.{deliver_number}
use Rattle.node.specs.Reply.{DeliverReply}
use Rattle.node.proofs.Deliver.{deliver-keeps-state}
use Rattle.node_c.specs.Calls.{node_deliver, on_image}
use Rattle.image.specs.Image.{is_image, read_image}
use Rattle.image.proofs.RoundTrips.{image-size, image-state}
use Rattle.node_c.proofs.Kept.{handed-on, on-image}
use Rattle.node_c.proofs.entries.node_deliver.Goals.{Else-k-eq0, Else-not-is_image}
use Rattle.node_c.proofs.entries.node_deliver.Goals as goal

accepted : (c : Else-not-is_image) → is_image c.args.image.now ≡ true
accepted c = sym c.is_image.ensures ∙ c.if-not-is_image.false

-- The state that is handed back with another number than 0 is the one in the image's bytes.
kept : (c : Else-k-eq0) → Bytes c.args.image.now → ReadState (take checkpoint_size c.args.image.now) c.deliver-reply.result.node.state
kept c bytes =
    let is_one = sym c.is_image.ensures ∙ c.if-not-is_image.false in
    let r = image-state c.args.image.now bytes is_one in
    let state = ap (λ (x : DeliverReply). x.node.state) c.deliver-reply.ensures in
    let number = ap (λ (x : DeliverReply). deliver_number x.answer) c.deliver-reply.ensures in
    let z = rw (c.deliver_number-k.ensures, number) at c.if-k-eq0.false in
    rw (state, deliver-keeps-state _ _ _ z, c.node_in.ensures) r

pub node_in-requires : goal.node_in-requires
node_in-requires c = omega (arith, image-size _ (accepted (goal.at.node_in-requires c).Else-not-is_image))

pub returns-then-k-eq0 : goal.returns-then-k-eq0
unfolding node_deliver
returns-then-k-eq0 c =
    let is_one = accepted (goal.at.returns-then-k-eq0 c).Else-not-is_image in
    record {
      value =
          rw (on-image _ _ _ is_one, ← c.node_in.ensures, ← c.deliver-reply.ensures, ← c.deliver_number-k.ensures, c.if-k-eq0.true) c.hand_out.ensures.value;
      out_after =
          rw (on-image _ _ _ is_one, ← c.node_in.ensures, ← c.deliver-reply.ensures, ← c.deliver_number-k.ensures, c.if-k-eq0.true) c.hand_out.ensures.out_after;
    }

pub slice_bounds-hand_on-end : goal.slice_bounds-hand_on-end
slice_bounds-hand_on-end c = omega (arith, image-size _ (accepted (goal.at.slice_bounds-hand_on-end c).Else-not-is_image))

pub returns : goal.returns
unfolding node_deliver
returns c =
    let is_one = accepted (goal.at.returns c).Else-not-is_image in
    let bytes : Bytes c.args.image.now = λ i. omega (arith, c.type_inv.image i) in
    let handed =
    handed-on _ _ _ (λ _. kept (goal.at.returns c).Else-k-eq0 bytes) _ _ (c.hand_on.ensures.value, c.hand_on.ensures.out_after) in
    record {
      value = rw (on-image _ _ _ is_one, ← c.node_in.ensures, ← c.deliver-reply.ensures, ← c.deliver_number-k.ensures) handed.0;
      out_after = rw (on-image _ _ _ is_one, ← c.node_in.ensures, ← c.deliver-reply.ensures, ← c.deliver_number-k.ensures) handed.1;
    }

pub returns-then-not-is_image : goal.returns-then-not-is_image
unfolding node_deliver on_image read_image
returns-then-not-is_image c = let e = sym c.is_image.ensures ∙ c.if-not-is_image.true in record { value = rw e; out_after = rw e }
