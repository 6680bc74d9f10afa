use mathlib.Core.Path.{◌∙◌}
use Rattle.binary.proofs.Library.{put_number, le_bytes-four}
use Rattle.binary.proofs.put_u32.Goals as goal

pub returns : goal.returns
returns c =
    put_number 4 _ _ _ _ (c.copy_from_slice.ensures.after ∙ c.to_le_bytes.ensures ∙ le_bytes-four c.args.x)
