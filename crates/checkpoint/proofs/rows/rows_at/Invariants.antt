use lib.ListN.{drop}
use Rattle.binary.proofs.Rows.{RowsRead}
use Rattle.checkpoint.proofs.rows.rows_at.Given as goal

abbrev pub invariant-loop-i : goal.invariant-loop-i
invariant-loop-i g l = RowsRead g.T.Stored.format g.row.N (drop l.at l.b) l.i l.rows
