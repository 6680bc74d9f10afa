use Rattle.binary.specs.Number.{Bytes}
use Rattle.checkpoint.specs.Layout.{checkpoint_size}
use native.Mathlib.Omega.{arith}
use mathlib.Core.Bool.{true}
use mathlib.Core.Path.{◌≡◌, sym, ap, ◌∙◌}
use lib.ListN.{take}
use Rattle.checkpoint.specs.Claims.{ReadState}
use Rattle.node.specs.Reply.{QueryReply}
use Rattle.node.proofs.Query.{query-keeps-state}
use Rattle.node_c.specs.Calls.{node_query, on_image}
use Rattle.image.specs.Image.{is_image, read_image}
use Rattle.image.proofs.RoundTrips.{image-size, image-state}
use Rattle.node_c.proofs.AnswerNumbers.{query-is}
use Rattle.node_c.proofs.Kept.{handed-on, on-image}
use Rattle.node_c.proofs.entries.node_query.Goals.{After-query-reply, Else-not-is_image}
use Rattle.node_c.proofs.entries.node_query.Goals as goal

accepted : (c : Else-not-is_image) → is_image c.args.image.now ≡ true
accepted c = sym c.is_image.ensures ∙ c.if-not-is_image.false

-- The state that is handed back is the one in the image's bytes.
kept : (c : After-query-reply) → Bytes c.args.image.now → ReadState (take checkpoint_size c.args.image.now) c.query-reply.result.node.state
kept c bytes =
    let r = image-state c.args.image.now bytes (sym c.is_image.ensures ∙ c.if-not-is_image.false) in
    let state = ap (λ (x : QueryReply). x.node.state) c.query-reply.ensures in
    rw (state, query-keeps-state, c.node_in-held.ensures) r

pub node_in-held-requires : goal.node_in-held-requires
node_in-held-requires c = omega (arith, image-size _ (accepted (goal.at.node_in-held-requires c).Else-not-is_image))

pub slice_bounds-hand_on-end : goal.slice_bounds-hand_on-end
slice_bounds-hand_on-end c = omega (arith, image-size _ (accepted (goal.at.slice_bounds-hand_on-end c).Else-not-is_image))

pub returns : goal.returns
unfolding node_query
returns c =
    let is_one = accepted (goal.at.returns c).Else-not-is_image in
    let bytes : Bytes c.args.image.now = λ i. omega (arith, c.type_inv.image i) in
    let handed =
    handed-on _ _ _ (λ _. kept (goal.at.returns c).After-query-reply bytes) _ _ (c.hand_on.ensures.value, c.hand_on.ensures.out_after) in
    record {
      value = rw (on-image _ _ _ is_one, ← c.node_in-held.ensures, ← c.query-reply.ensures, query-is c.query-reply.result.answer, ← c.number_in-k.ensures) handed.0;
      out_after = rw (on-image _ _ _ is_one, ← c.node_in-held.ensures, ← c.query-reply.ensures, query-is c.query-reply.result.answer, ← c.number_in-k.ensures) handed.1;
    }

pub returns-then-not-is_image : goal.returns-then-not-is_image
unfolding node_query on_image read_image
returns-then-not-is_image c = let e = sym c.is_image.ensures ∙ c.if-not-is_image.true in record { value = rw e; out_after = rw e }
