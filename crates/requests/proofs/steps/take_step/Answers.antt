use mathlib.Core.Path.{sym, ◌∙◌}
use Rattle.requests.proofs.Frames.{frame-fits}
use Rattle.requests.proofs.steps.take_step.Goals as goal

pub step_start-requires : goal.step_start-requires
step_start-requires c = frame-fits _ _ _ (sym c.frame.ensures ∙ c.in-Some.is)

pub step_query-requires : goal.step_query-requires
step_query-requires c = frame-fits _ _ _ (sym c.frame.ensures ∙ c.in-Some.is)

pub step_deliver-requires : goal.step_deliver-requires
step_deliver-requires c = frame-fits _ _ _ (sym c.frame.ensures ∙ c.in-Some.is)
