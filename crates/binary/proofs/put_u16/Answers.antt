use mathlib.Core.Path.{◌∙◌}
use Rattle.binary.proofs.Library.{put_number, le_bytes-two}
use Rattle.binary.proofs.put_u16.Goals as goal

pub returns : goal.returns
returns c =
    put_number 2 _ _ _ _ (c.copy_from_slice.ensures.after ∙ c.to_le_bytes.ensures ∙ le_bytes-two c.args.x)
