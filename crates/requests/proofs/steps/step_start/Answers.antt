use native.Mathlib.Nat.{sub-zero}
use mathlib.Core.Path.{sym, ◌∙◌}
use Rattle.binary.proofs.Slices.{part-from}
use Rattle.requests.proofs.Frames.{frame-fits}
use Rattle.requests.specs.Requests.{step_start}
use Rattle.requests.proofs.steps.step_start.Goals as goal

pub slice_bounds-start-end : goal.slice_bounds-start-end
slice_bounds-start-end c = frame-fits _ _ _ (sym c.frame.ensures ∙ c.in-Some.is)

pub returns : goal.returns
unfolding step_start
returns c =
    let e = rw (sub-zero, sub-zero, part-from) at c.start-reply.ensures in
    let second = sym (rw part-from at c.frame.ensures) ∙ c.in-Some.is in
    rw (second, sym c.is_checkpoint_kind.ensures ∙ c.if-not-is_checkpoint_kind.false, ← e) c.after_start.ensures
