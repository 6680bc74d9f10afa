use mathlib.Core.Path.{◌∙◌}
use Rattle.binary.proofs.Library.{put_number, le_bytes-eight}
use Rattle.binary.proofs.put_u64.Goals as goal

pub returns : goal.returns
returns c =
    put_number 8 _ _ _ _ (c.copy_from_slice.ensures.after ∙ c.to_le_bytes.ensures ∙ le_bytes-eight c.args.x)
