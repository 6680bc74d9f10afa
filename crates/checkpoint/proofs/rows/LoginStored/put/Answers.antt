use mathlib.Core.Path.{refl}
use native.Mathlib.Omega.{arith}
use Rattle.binary.specs.Number.{to_bytes}
use Rattle.binary.proofs.Splices.{then-put}
use Rattle.checkpoint.proofs.rows.LoginStored.put.Goals as goal

pub returns : goal.returns
unfolding to_bytes
returns c =
    then-put _ _ _ _ _ _ _ c.put_u16.ensures
    (then-put _ _ _ _ _ _ _ c.put_u32-2.ensures
    c.put_u32.ensures refl (omega arith)) refl (omega arith)
