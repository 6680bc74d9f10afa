use Prim.Native.Nat.{◌-◌, ◌≤◌}
use mathlib.Core.Path.{◌≡◌}
use lib.ListN.{length, take}
use Rattle.node_run.proofs.read_request.Given as goal

abbrev pub invariant-loop-stdin : goal.invariant-loop-stdin
invariant-loop-stdin l =
    (length l.input ≡ length l.initial.input) × ((l.start ≤ l.to) × ((l.to ≤ length l.input) × (take l.start l.input ≡ take l.start l.initial.input)))

abbrev pub decreases-loop-stdin : goal.decreases-loop-stdin
decreases-loop-stdin l = length l.input - l.to
