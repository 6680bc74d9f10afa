use Prim.Native.Nat.{◌+◌, ◌-◌, ◌≤◌}
use mathlib.Core.Path.{◌≡◌}
use Rattle.state.specs.Trustees.{ones_below}
use Rattle.state.proofs.trustees.ones_below.Given as goal

abbrev pub invariant-loop : goal.invariant-loop
invariant-loop l = (l.ones ≤ l.counter) × (l.ones + ones_below (l.n - l.counter) l.rest ≡ ones_below l.n l.mask)
