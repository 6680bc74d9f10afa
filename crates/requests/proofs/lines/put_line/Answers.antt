use Rattle.requests.proofs.Writing.{length-word}
use Rattle.requests.specs.Lines.{word_of, line_of}
use Rattle.decimal.specs.Decimal.{decimal}
use Rattle.decimal.proofs.Stored.{length-decimal}
use Rattle.binary.proofs.Splices.{put_first, put_next, put_last, lefts-rights}
use mathlib.Core.List.{[], ◌∷◌}
use native.Mathlib.Omega.{arith}
use Rattle.requests.proofs.lines.put_line.Goals as goal

pub put_bytes-word-requires : goal.put_bytes-word-requires
put_bytes-word-requires c =
    let a = c.args in
    omega (arith, length-decimal a.ordinal)

pub put_answer-number-requires : goal.put_answer-number-requires
put_answer-number-requires c =
    let a = c.args in
    omega (arith, length-decimal a.ordinal)

pub put_decimal-end-requires : goal.put_decimal-end-requires
put_decimal-end-requires c =
    let a = c.args in
    omega (arith, length-decimal a.ordinal, length-word a.answer)

pub put_bytes-requires : goal.put_bytes-requires
put_bytes-requires c =
    let a = c.args in
    omega (arith, length-decimal a.ordinal, length-word a.answer, length-decimal a.cycle)

pub returns : goal.returns
unfolding line_of
returns c =
    let a = c.args in
    let d = a.out.now in
    let m₁ = length-decimal a.ordinal in
    let m₂ = length-word a.answer in
    let m₃ = length-decimal a.cycle in
    let w₁ = put_first d _ _ _ _ c.put_decimal-space.ensures.value c.put_decimal-space.ensures.out_after in
    let w₂ = put_next d _ _ _ _ _ _ _ w₁ (omega arith) c.put_bytes-word.ensures.value c.put_bytes-word.ensures.out_after in
    let w₃ = put_next d _ _ _ _ _ _ _ w₂ (omega arith) c.put_answer-number.ensures.value c.put_answer-number.ensures.out_after in
    let w₄ = put_next d _ _ _ _ _ _ _ w₃ (omega arith) c.put_decimal-end.ensures.value c.put_decimal-end.ensures.out_after in
    let w₅ = put_next d _ _ _ _ _ _ _ w₄ (omega arith) c.put_bytes.ensures.value c.put_bytes.ensures.out_after in
    let w = put_last d _ _ _ _ _ w₅ (lefts-rights (decimal a.ordinal) ((32 ∷ []) ∷ word_of a.answer ∷ decimal a.cycle ∷ (10 ∷ []) ∷ [])) in
    record { value = w.0; out_after = w.1 }
