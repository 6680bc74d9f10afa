use Rattle.decimal.specs.Decimal.{decimal}
use Rattle.decimal.proofs.Stored.{length-decimal}
use Rattle.binary.proofs.Splices.{put_first, put_next, put_last, lefts-rights}
use mathlib.Core.List.{[], ◌∷◌}
use native.Mathlib.Omega.{arith}
use Rattle.requests.proofs.lines.put_refusal.Goals as goal

pub put_bytes-requires : goal.put_bytes-requires
put_bytes-requires c =
    let a = c.args in
    omega (arith, length-decimal a.number)

pub returns : goal.returns
returns c =
    let a = c.args in
    let d = a.out.now in
    let most = length-decimal a.number in
    let w₁ = put_first d _ _ _ _ c.put_bytes-digits.ensures.value c.put_bytes-digits.ensures.out_after in
    let w₂ = put_next d _ _ _ _ _ _ _ w₁ (omega arith) c.put_decimal-end.ensures.value c.put_decimal-end.ensures.out_after in
    let w₃ = put_next d _ _ _ _ _ _ _ w₂ (omega arith) c.put_bytes.ensures.value c.put_bytes.ensures.out_after in
    let w = put_last d _ _ _ _ _ w₃ (lefts-rights (110 ∷ 111 ∷ 32 ∷ []) (decimal a.number ∷ (32 ∷ []) ∷ [])) in
    record { value = w.0; out_after = w.1 }
