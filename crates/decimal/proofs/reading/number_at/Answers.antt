use native.Mathlib.Omega.{arith}
use mathlib.Core.Path.{sym, ◌∙◌}
use Rattle.decimal.proofs.Scanned.{scanned-short, scanned-one, scanned-other, scanned-all, digit-range}
use Rattle.decimal.proofs.reading.number_at.Goals as goal

pub returns-then-not-is_ascii_digit-clause-value : goal.returns-then-not-is_ascii_digit-clause-value
returns-then-not-is_ascii_digit-clause-value c =
    scanned-other c.loop-end.invariant (omega arith) (omega arith) (omega arith) (sym c.is_ascii_digit.ensures.value ∙ c.if-not-is_ascii_digit.true)

pub with_digit-value-requires : goal.with_digit-value-requires
with_digit-value-requires c =
    let range = digit-range _ (sym c.is_ascii_digit.ensures.value ∙ c.if-not-is_ascii_digit.false) in
    let short = scanned-short c.loop-end.invariant (omega arith) c.requires in
    (range.0, (range.1, short))

pub loop-end-preserved : goal.loop-end-preserved
loop-end-preserved c =
    rw c.with_digit-value.ensures
    (scanned-one c.loop-end.invariant (omega arith) (omega arith) (omega arith) (sym c.is_ascii_digit.ensures.value ∙ c.if-not-is_ascii_digit.false))

pub returns-clause-value : goal.returns-clause-value
returns-clause-value c = scanned-all c.loop-end.invariant _ (omega arith) (omega arith) (omega arith)
