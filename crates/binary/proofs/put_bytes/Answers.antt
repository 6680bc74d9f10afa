use native.Mathlib.Omega.{arith}
use Rattle.binary.proofs.Library.{put_mid-splice}
use Rattle.binary.proofs.put_bytes.Goals as goal

pub returns-clause-out_after : goal.returns-clause-out_after
returns-clause-out_after c = rw c.copy_from_slice.ensures.after (put_mid-splice _ _ _ _ (omega arith))
