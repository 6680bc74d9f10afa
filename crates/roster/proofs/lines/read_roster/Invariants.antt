use Prim.Native.Nat.{◌-◌}
use lib.ListN.{length}
use Rattle.roster.specs.Roster.{most_lines}
use Rattle.roster.proofs.RowsRead.{RowsRead}
use Rattle.roster.proofs.lines.read_roster.Given as goal

abbrev pub invariant-loop-rest : goal.invariant-loop-rest
invariant-loop-rest l = RowsRead l.text l.rows l.rest

abbrev pub decreases-loop-rest : goal.decreases-loop-rest
decreases-loop-rest l = most_lines - length l.rows
