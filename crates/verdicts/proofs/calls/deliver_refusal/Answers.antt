use native.Mathlib.Omega.{arith}
use Rattle.records.proofs.SheetRows.{sheet-of}
use Rattle.verdicts.proofs.calls.deliver_refusal.Goals as goal

pub bounds-sheet-4 : goal.bounds-sheet-4
bounds-sheet-4 c = omega (arith, (sheet-of c.args.sheet.now c.requires.0).size)

pub bounds-sheet-5 : goal.bounds-sheet-5
bounds-sheet-5 c = omega (arith, (sheet-of c.args.sheet.now c.requires.0).size)
