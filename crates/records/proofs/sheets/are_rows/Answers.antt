use Prim.Native.Nat.{◌<◌}
use mathlib.Core.Path.{sym, ◌∙◌}
use native.Mathlib.Omega.{arith}
use borrow.Author.Tests.{lt-ltb, le-ltb}
use Rattle.lists.proofs.Loops.{all-turn, all_end}
use Rattle.binary.specs.Number.{byte_at}
use Rattle.records.specs.Sheet.{rows_of}
use Rattle.records.proofs.SheetRows.{no_row, sheet-rows, sheet-row}
use Rattle.records.proofs.sheets.are_rows.Goals as goal

pub returns-then-b-i-ge-SEAT_NUMBERS : goal.returns-then-b-i-ge-SEAT_NUMBERS
returns-then-b-i-ge-SEAT_NUMBERS c =
    let b = c.args.b.now in
    let h : c.loop-i.i < byte_at 6 b = omega arith in
    sym (c.loop-i.invariant ∙ all-turn _ (rows_of b) c.loop-i.i no_row (rw sheet-rows h) ∙ rw (sheet-row b c.loop-i.i h, le-ltb _ _ c.if-b-i-ge-SEAT_NUMBERS.true))

pub loop-i-preserved : goal.loop-i-preserved
loop-i-preserved c =
    let b = c.args.b.now in
    let h : c.loop-i.i < byte_at 6 b = omega arith in
    c.loop-i.invariant ∙ all-turn _ (rows_of b) c.loop-i.i no_row (rw sheet-rows h) ∙ rw
    (sheet-row b c.loop-i.i h, lt-ltb _ _ c.if-b-i-ge-SEAT_NUMBERS.false)

pub returns : goal.returns
returns c =
    let b = c.args.b.now in
    sym (c.loop-i.invariant ∙ all_end _ (rows_of b) c.loop-i.i (rw sheet-rows (omega arith)))
