use Rattle.roster.proofs.GrantBytes.{GrantsWritten}
use Rattle.roster.proofs.grants.put_grants.Given as goal

abbrev pub invariant-loop-i : goal.invariant-loop-i
invariant-loop-i l = GrantsWritten l.day l.initial.next l.rows l.initial.out l.i l.next l.out
