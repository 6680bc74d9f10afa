use Prim.Native.Nat.{◌+◌}
use native.Mathlib.Omega.{arith}
use mathlib.Core.Path.{refl}
use mathlib.Core.List.{[], ◌∷◌}
use Rattle.lists.specs.Table.{fill}
use Rattle.binary.specs.Number.{to_bytes}
use Rattle.binary.proofs.Splices.{put_first, put_next, put_last, lefts-rights}
use Rattle.roster.proofs.grants.put_arguments.Goals as goal

pub returns : goal.returns
unfolding to_bytes fill
returns c =
    let a = c.args in
    let d = a.out.now in
    let r = a.row in
    let w₁ = put_first d _ _ a.at (a.at + 4) refl c.put_u32.ensures in
    let w₂ = put_next d _ _ _ _ a.at _ (a.at + 8) w₁ (omega (arith, c.requires)) (omega arith) c.put_u32-2.ensures in
    let w₃ = put_next d _ _ _ _ a.at _ (a.at + 10) w₂ (omega (arith, c.requires)) (omega arith) c.put_u16.ensures in
    let w₄ = put_next d _ _ _ _ a.at _ (a.at + 12) w₃ (omega (arith, c.requires)) (omega arith) c.put_u16-2.ensures in
    (put_last d _ _ _ a.at _ w₄
    (lefts-rights (to_bytes 4 r.login) (to_bytes 4 r.end.0 ∷ to_bytes 2 r.rights ∷ to_bytes 2 0 ∷ []))).1
