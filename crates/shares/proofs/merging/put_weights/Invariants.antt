use Rattle.shares.proofs.Turns.{Weights}
use Rattle.shares.proofs.merging.put_weights.Given as goal

abbrev pub invariant-loop-i : goal.invariant-loop-i
invariant-loop-i l = Weights l.numbers l.i l.weights
