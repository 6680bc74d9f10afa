use mathlib.Core.Path.{refl}
use native.Mathlib.Omega.{arith}
use Rattle.binary.specs.Number.{to_bytes}
use Rattle.binary.proofs.Splices.{then-put}
use Rattle.checkpoint.specs.Code.{parameter_bytes}
use Rattle.checkpoint.proofs.write.put_parameters.Goals as goal

pub returns : goal.returns
unfolding to_bytes parameter_bytes
returns c =
    then-put _ _ _ _ _ _ _ c.put_u8-6.ensures
    (then-put _ _ _ _ _ _ _ c.put_u8-5.ensures
    (then-put _ _ _ _ _ _ _ c.put_u16.ensures
    (then-put _ _ _ _ _ _ _ c.put_u8-4.ensures
    (then-put _ _ _ _ _ _ _ c.put_u8-3.ensures
    (then-put _ _ _ _ _ _ _ c.put_u8-2.ensures
    c.put_u8.ensures refl (omega arith)) refl (omega arith)) refl (omega arith)) refl (omega arith)) refl (omega arith)) refl (omega arith)
