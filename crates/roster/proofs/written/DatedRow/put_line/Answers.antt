use Prim.Native.Nat.{◌+◌}
use native.Mathlib.Omega.{arith}
use native.Mathlib.Nat.{zero-add}
use mathlib.Core.Path.{refl, ◌∙◌}
use mathlib.Core.List.{[], ◌∷◌, ◌++◌}
use Rattle.binary.proofs.Splices.{put_first, put_next, put_last, lefts-rights, splice-overwrite}
use Rattle.decimal.specs.Decimal.{decimal, padded}
use Rattle.calendar.specs.Text.{day_text}
use Rattle.roster.specs.Csv.{comma, carriage_return, line_feed}
use Rattle.roster.specs.Fields.{rights_digits, hex_text}
use Rattle.roster.specs.Roster.{line_of}
use Rattle.roster.proofs.LineBytes.{login_size}
use Rattle.roster.proofs.written.DatedRow.put_line.Goals as goal

pub returns : goal.returns
unfolding line_of day_text padded hex_text
returns c =
    let a = c.args in
    let d = a.out.now in
    let r = a.self.row in
    let at = c.put_decimal-date.result in
    let short = login_size r.login (omega arith) in
    let w₁ = put_first d _ _ 0 at c.put_decimal-date.ensures.value c.put_decimal-date.ensures.out_after in
    let w₂ = put_next d _ _ _ _ 0 at (at + 1) w₁ (omega (arith, c.put_decimal-date.ensures.value)) refl c.put_u8.ensures in
    let w₃ = put_next d _ _ _ _ 0 (at + 1) (at + 11) w₂ (omega (arith, c.put_decimal-date.ensures.value)) (omega arith) c.put_day.ensures in
    let written = rw c.rights_text.ensures at c.put_bytes.ensures in
    let w₄ = put_next d _ _ _ _ 0 (at + 11) _ w₃ (omega (arith, c.put_decimal-date.ensures.value)) written.value written.out_after in
    let end = comma ∷ (hex_text rights_digits r.rights ++ (carriage_return ∷ line_feed ∷ [])) in
    let all = put_last d _ _ _ 0 _ w₄ (lefts-rights (decimal r.login) ((comma ∷ []) ∷ day_text r.end.0 ∷ end ∷ [])) in
    record { value = all.0 ∙ zero-add _; upper_bound = omega (arith, written.value, c.put_decimal-date.ensures.value); out_after = all.1 ∙ splice-overwrite d _ }
