use Rattle.page.proofs.Rows.{LinesWritten}
use Rattle.page.proofs.lines.put_rows.Given as goal

abbrev pub invariant-loop-row : goal.invariant-loop-row
invariant-loop-row l = LinesWritten l.silent l.t l.row-items l.initial.out l.row-index l.at l.out
