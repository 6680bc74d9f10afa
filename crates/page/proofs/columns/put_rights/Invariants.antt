use Rattle.binary.proofs.Copies.{Copied}
use Rattle.state.specs.Limits.{right_count}
use Rattle.page.specs.Line.{places}
use Rattle.page.proofs.columns.put_rights.Given as goal

abbrev pub invariant-loop-i : goal.invariant-loop-i
invariant-loop-i l = Copied l.initial.out l.at (places right_count 0 l.rights) l.i l.out
