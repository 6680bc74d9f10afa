use Rattle.records.proofs.SheetRows.{Seen}
use Rattle.records.proofs.sheets.seen_seats.Given as goal

abbrev pub invariant-loop-i : goal.invariant-loop-i
invariant-loop-i l = Seen l.b l.seats l.i l.seen
