use mathlib.Core.Path.{ap, ◌∙◌}
use native.Mathlib.Omega.{arith}
use Rattle.binary.specs.Splice.{splice}
use Rattle.binary.proofs.Splices.{then-put, first-put, next-put, splice-overwrite}
use Rattle.checkpoint.specs.Layout.{tables_at}
use Rattle.checkpoint.specs.Code.{parameters_at}
use Rattle.checkpoint.proofs.Written.{time-size, parameter-size, parts-joined}
use Rattle.checkpoint.proofs.write.write_checkpoint.Goals as goal

pub returns : goal.returns
returns c =
    let a = c.args in
    let d = a.out.now in
    let w₁ = first-put d _ _ 0 parameters_at c.put_time.ensures (time-size a.s.cycle a.s.day) in
    let w₂ = next-put d _ _ _ _ 0 parameters_at 8 w₁ c.put_parameters.ensures (parameter-size _ _ _) (omega arith) in
    then-put d _ _ _ _ 0 tables_at c.put_tables.ensures w₂.is w₂.ends (omega arith)
    ∙ ap (splice d 0) (parts-joined a.s) ∙ splice-overwrite d _
