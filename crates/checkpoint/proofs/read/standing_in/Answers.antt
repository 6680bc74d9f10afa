use mathlib.Core.Path.{sym}
use Rattle.checkpoint.proofs.Fields.{standing-at, no-standing}
use Rattle.checkpoint.proofs.read.standing_in.Goals as goal

pub returns-else-at-lt-SEATS : goal.returns-else-at-lt-SEATS
returns-else-at-lt-SEATS c = sym (no-standing c.args.b.now c.args.i (rw c.from-at.ensures at c.if-at-lt-SEATS.false))

pub returns-then-at-lt-SEATS : goal.returns-then-at-lt-SEATS
returns-then-at-lt-SEATS c = rw c.from-at.ensures (sym (standing-at c.args.b.now c.args.i (rw c.from-at.ensures at c.if-at-lt-SEATS.true)))
