use mathlib.Core.Path.{sym, ◌∙◌}
use Rattle.requests.proofs.Frames.{frame-fits}
use Rattle.requests.proofs.steps.step_deliver.Goals as goal

pub slice_bounds-deliver-end-2 : goal.slice_bounds-deliver-end-2
slice_bounds-deliver-end-2 c = frame-fits _ _ _ (sym c.frame.ensures ∙ c.in-Some.is)
