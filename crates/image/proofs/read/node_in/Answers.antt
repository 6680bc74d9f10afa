use Rattle.image.specs.Image.{decode_image}
use Rattle.image.proofs.read.node_in.Goals as goal

pub returns : goal.returns
unfolding decode_image
returns c = rw (c.counts_in.ensures, c.own_in.ensures, c.current_state_in.ensures)
