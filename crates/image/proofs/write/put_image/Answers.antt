use Rattle.image.specs.Layout.{own_at}
use native.Mathlib.Omega.{arith}
use mathlib.Core.Path.{◌∙◌}
use Rattle.binary.proofs.Splices.{then-put, splice-overwrite}
use Rattle.image.proofs.write.put_image.Goals as goal

pub returns : goal.returns
returns c =
    let d = c.args.out.now in
    then-put d _ _ _ _ 0 own_at c.put_own.ensures c.put_state.ensures (omega (arith, c.requires)) (omega (arith, c.requires))
    ∙ splice-overwrite d _
