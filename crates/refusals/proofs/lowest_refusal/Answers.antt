use Rattle.std.proofs.Common.{refl}
use Prim.Native.Nat.{◌≤◌, ◌<◌}
use native.Mathlib.Omega.{arith}
use borrow.Author.Tests.{lt-ltb, le-ltb}
use Rattle.refusals.specs.Refusals.{number_of, lowest}
use Rattle.refusals.proofs.Table.{alone, lower}
use Rattle.refusals.proofs.lowest_refusal.Goals as goal

pub returns-in-Ok-default : goal.returns-in-Ok-default
unfolding lowest
returns-in-Ok-default c = rw c.in-Ok-default.is-0 refl

pub returns-in-Err-Ok : goal.returns-in-Err-Ok
returns-in-Err-Ok c = let p = c.in-Err-Ok in rw p.is-0 (rw p.is-1 (rw (alone p.field-0-0) refl))

pub returns-then-number : goal.returns-then-number
returns-then-number c =
    let p = c.in-Err-Err in
    let h : number_of p.x < number_of p.y = omega arith in
    rw (p.is-0, p.is-1, lower p.x p.y, lt-ltb _ _ h)

pub returns-else-number : goal.returns-else-number
returns-else-number c =
    let p = c.in-Err-Err in
    let h : number_of p.y ≤ number_of p.x = omega arith in
    rw (p.is-0, p.is-1, lower p.x p.y, le-ltb _ _ h)
