use Prim.Native.Nat.{◌<◌, ◌^◌}
use native.Mathlib.Nat.{pow-le-pow_right, div-eq_of_lt}
use native.Mathlib.Omega.{arith}
use Rattle.state.proofs.is_held.Goals as goal

pub returns-then-right-ge-RIGHTS : goal.returns-then-right-ge-RIGHTS
returns-then-right-ge-RIGHTS c =
    let p = pow-le-pow_right {n = 2} (omega arith) c.if-right-ge-RIGHTS.true in
    let h : c.args.rights < 2 ^ c.args.right = omega arith in
    rw (div-eq_of_lt h)
