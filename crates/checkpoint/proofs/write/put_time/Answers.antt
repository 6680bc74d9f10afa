use mathlib.Core.Path.{refl}
use native.Mathlib.Omega.{arith}
use Rattle.binary.specs.Number.{to_bytes}
use Rattle.binary.proofs.Splices.{then-put}
use Rattle.checkpoint.specs.Code.{time_bytes}
use Rattle.checkpoint.proofs.write.put_time.Goals as goal

pub returns : goal.returns
unfolding to_bytes time_bytes
returns c =
    then-put _ _ _ _ _ _ _ c.put_u32-2.ensures
    (then-put _ _ _ _ _ _ _ c.put_u32.ensures
    (then-put _ _ _ _ _ _ _ c.put_u16-2.ensures
    c.put_u16.ensures refl (omega arith)) refl (omega arith)) refl (omega arith)
