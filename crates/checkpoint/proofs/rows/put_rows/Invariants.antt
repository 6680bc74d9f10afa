use Rattle.binary.proofs.Rows.{RowsWritten}
use Rattle.checkpoint.proofs.rows.put_rows.Given as goal

abbrev pub invariant-loop-i : goal.invariant-loop-i
invariant-loop-i g l = RowsWritten g.T.Stored.format g.row.N l.rows l.initial.out l.at l.i l.out
