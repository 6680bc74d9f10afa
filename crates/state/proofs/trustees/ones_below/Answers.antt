use Prim.Native.Nat.{◌-◌}
use mathlib.Core.Path.{◌≡◌}
use native.Mathlib.Omega.{arith}
use Rattle.state.proofs.TrusteeMasks.{ones-turn, ones-end}
use Rattle.state.proofs.trustees.ones_below.Goals as goal

pub loop-preserved : goal.loop-preserved
loop-preserved c = omega (arith, ones-turn c.args.n c.loop.counter c.loop.rest (omega arith))

pub returns : goal.returns
returns c =
    let z : c.args.n - c.loop.counter ≡ 0 = omega arith in
    omega (arith, rw z at c.loop.invariant.1, ones-end c.loop.rest)
