use Rattle.decimal.proofs.Scanned.{Scanned}
use Rattle.decimal.proofs.reading.number_at.Given as goal

abbrev pub invariant-loop-end : goal.invariant-loop-end
invariant-loop-end l = Scanned l.text l.at l.most l.value l.end
