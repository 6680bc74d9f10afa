use Prim.Native.Nat.{◌≤◌, ◌<◌}
use mathlib.Core.Path.{◌∙◌}
use native.Mathlib.Omega.{arith}
use lib.ListN.{length}
use Rattle.lists.proofs.Loops.{count-pass, count-fail, count-end}
use Rattle.binary.specs.Codec.{decode_rows}
use Rattle.binary.proofs.Rows.{row-test, length-decode_rows}
use Rattle.state.specs.Limits.{seat_count}
use Rattle.state.specs.Seats.{free_seat, is_present, present_seats}
use Rattle.checkpoint.specs.Format.{seat}
use Rattle.checkpoint.proofs.check.count_present.Goals.{else-is_present, then-is_present}
use Rattle.checkpoint.proofs.check.count_present.Goals as goal

pub loop-i-preserved : goal.loop-i-preserved
loop-i-preserved c =
    let b = c.args.table.now in
    let h = c.loop-i-test.true in
    let k : c.loop-i.i < length (decode_rows seat seat_count b) = rw (length-decode_rows seat seat_count) h in
    let t = row-test seat seat_count b c.loop-i.i free_seat is_present _ _ h c.at.ensures c.is_present.ensures in
    elim c.if-is_present.branch [
      | then-is_present w ↦ omega (arith, count-pass is_present (decode_rows seat seat_count b) c.loop-i.i free_seat k (t ∙ w.if-is_present.true))
      | else-is_present w ↦ omega (arith, count-fail is_present (decode_rows seat seat_count b) c.loop-i.i free_seat k (t ∙ w.if-is_present.false))
    ]

pub returns : goal.returns
unfolding present_seats
returns c =
    let a = c.args in
    let b = a.table.now in
    let k : length (decode_rows seat seat_count b) ≤ c.loop-i.i = rw (length-decode_rows seat seat_count) c.loop-i-test.false in
    (omega (arith, count-end is_present (decode_rows seat seat_count b) c.loop-i.i k), omega arith)
