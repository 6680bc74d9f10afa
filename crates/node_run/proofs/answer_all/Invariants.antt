use Rattle.node_run.specs.Buffers.{Fits}
use Rattle.node_run.specs.Turns.{Printed}
use Rattle.node_run.proofs.Printing.{left}
use mathlib.Core.Path.{◌≡◌}
use lib.ListN.{length}
use Rattle.node_run.proofs.answer_all.Given as goal

abbrev pub invariant-loop-run : goal.invariant-loop-run
invariant-loop-run l =
    (length l.input ≡ length l.initial.input) × ((length l.output ≡ length l.initial.output) × (Fits 0 l.run (length l.input) (length l.output) × Printed l.run l.input l.output))

abbrev pub decreases-loop-run : goal.decreases-loop-run
decreases-loop-run l = left l.run
