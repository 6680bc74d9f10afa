use mathlib.Core.Path.{sym, ◌∙◌}
use Rattle.requests.proofs.Frames.{record-heads}
use Rattle.requests.proofs.framing.frame.Goals as goal

pub size_of-size-requires : goal.size_of-size-requires
size_of-size-requires c = record-heads _ (sym c.holds_record.ensures ∙ c.if-not-holds_record.false)

pub u16_at-kind-requires : goal.u16_at-kind-requires
u16_at-kind-requires c = record-heads _ (sym c.holds_record.ensures ∙ c.if-not-holds_record.false)
