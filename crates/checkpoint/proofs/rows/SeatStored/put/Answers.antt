use mathlib.Core.Path.{refl}
use native.Mathlib.Omega.{arith}
use Rattle.binary.proofs.Splices.{then-put}
use Rattle.checkpoint.proofs.rows.SeatStored.put.Goals as goal

pub returns : goal.returns
returns c =
    then-put _ _ _ _ _ _ _ c.put_u32.ensures
    c.put_u8.ensures refl (omega arith)
