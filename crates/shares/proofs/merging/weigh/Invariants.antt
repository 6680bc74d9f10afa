use Rattle.shares.proofs.Turns.{Weighed}
use Rattle.shares.proofs.merging.weigh.Given as goal

abbrev pub invariant-loop-i : goal.invariant-loop-i
invariant-loop-i l = Weighed l.x l.numbers l.initial.weights l.i l.weights l.total
