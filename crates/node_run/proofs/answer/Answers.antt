use Rattle.node_run.proofs.Outcomes.{answered}
use Rattle.requests.proofs.Extents.{used-in}
use native.Mathlib.Nat.{lt_of_le_of_lt}
use native.Mathlib.Omega.{arith}
use Rattle.node_run.proofs.answer.Goals as goal

pub overflow_add-next : goal.overflow_add-next
overflow_add-next c =
    let a = c.args in
    let u = used-in a.run.node a.input.now a.run.from a.run.to _ c.requires.fits.0 c.requires.fits.1.0 c.take_step-step.ensures in
    record { fits = lt_of_le_of_lt u (omega arith) }

pub returns : goal.returns
returns c =
    let a = c.args in
    answered a.run a.input.now a.output.now _ c.take_step-step.result c.put_line-pending.result
    c.requires.fits
    c.take_step-step.ensures
    c.put_line-pending.ensures.value
    c.put_line-pending.ensures.out_after
    c.put_line-pending.auto.out
