use Rattle.decimal.proofs.Stored.{Stored}
use Rattle.decimal.proofs.digits_of.Given as goal

abbrev pub invariant-loop-from : goal.invariant-loop-from
invariant-loop-from l = Stored l.x l.from l.rest l.bytes
