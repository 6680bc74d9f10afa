use Rattle.image.specs.Layout.{image_size}
use mathlib.Core.Path.{sym, ap, ◌∙◌}
use lib.Dec.{leb}
use lib.ListN.{length}
use borrow.Author.Tests.{leb-true}
use Rattle.node_c.specs.Calls.{writes_image}
use Rattle.node_c.proofs.Calls.{writes-in-room}
use Rattle.node_c.proofs.entries.hand_on.Goals as goal

pub put_image-requires : goal.put_image-requires
put_image-requires c =
    let e = ap writes_image (sym c.try_room-number.ensures) ∙ sym c.writes_image.ensures ∙ c.if-writes_image.true in
    let p = writes-in-room (leb image_size (length c.args.out.now)) c.args.k e in
    (c.requires p.1, leb-true _ _ p.0)

pub returns-then-writes_image : goal.returns-then-writes_image
returns-then-writes_image c =
    record {
      value = c.try_room-number.ensures;
      out_after = rw (sym c.writes_image.ensures ∙ c.if-writes_image.true)
          c.put_image.ensures;
    }

pub returns : goal.returns
returns c = record { value = c.try_room-number.ensures; out_after = rw (sym c.writes_image.ensures ∙ c.if-writes_image.false) }
