use mathlib.Core.Path.{sym, ◌∙◌}
use Rattle.requests.proofs.Frames.{record-heads, record-fits}
use Rattle.requests.proofs.framing.holds_request.Goals as goal

pub u16_at-requires : goal.u16_at-requires
u16_at-requires c = record-heads _ (sym c.holds_record.ensures ∙ c.if-not-holds_record.false)

pub size_of-requires : goal.size_of-requires
size_of-requires c = record-heads _ (sym c.holds_record.ensures ∙ c.if-not-holds_record.false)

pub slice_bounds-holds_record-count : goal.slice_bounds-holds_record-count
slice_bounds-holds_record-count c = rw c.size_of.ensures (record-fits _ (sym c.holds_record.ensures ∙ c.if-not-holds_record.false))

pub slice_bounds-holds_record-start : goal.slice_bounds-holds_record-start
slice_bounds-holds_record-start c = rw c.size_of.ensures (record-fits _ (sym c.holds_record.ensures ∙ c.if-not-holds_record.false))
