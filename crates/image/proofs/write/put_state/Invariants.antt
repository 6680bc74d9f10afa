use Rattle.binary.proofs.Copies.{Copied}
use Rattle.image.proofs.write.put_state.Given as goal

abbrev pub invariant-loop-i : goal.invariant-loop-i
invariant-loop-i l = Copied l.initial.out 0 l.state l.i l.out
