use Rattle.image.specs.Layout.{image_size}
use borrow.Author.Tests.{lt-leb, le-leb}
use Rattle.node_c.specs.Calls.{return}
use Rattle.node_c.proofs.entries.hand_out.Goals as goal

pub returns-then-out-lt-IMAGE_SIZE : goal.returns-then-out-lt-IMAGE_SIZE
unfolding return
returns-then-out-lt-IMAGE_SIZE c = record { value = rw (lt-leb image_size _ c.if-out-lt-IMAGE_SIZE.true); out_after = rw (lt-leb image_size _ c.if-out-lt-IMAGE_SIZE.true) }

pub returns : goal.returns
unfolding return
returns c =
    let e = c.if-out-lt-IMAGE_SIZE.false in
    record { value = rw (le-leb image_size _ e); out_after = rw (le-leb image_size _ e) c.write_image.ensures }
