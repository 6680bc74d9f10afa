use mathlib.Core.Path.{sym, ◌∙◌}
use Rattle.binary.proofs.Rows.{all_row, not-row, all-rows}
use Rattle.state.specs.Limits.{seat_count}
use Rattle.state.specs.Seats.{free_seat}
use Rattle.state.specs.WellFormed.{is_well_formed_seat}
use Rattle.checkpoint.specs.Format.{seat}
use Rattle.checkpoint.proofs.check.are_well_formed_seats.Goals as goal

pub loop-i-preserved : goal.loop-i-preserved
loop-i-preserved c =
    let step = all_row seat seat_count c.args.table.now c.loop-i.i free_seat is_well_formed_seat _
    c.loop-i-test.true c.at.ensures _ c.is_well_formed.ensures c.if-not-is_well_formed.false in
    c.loop-i.invariant ∙ step

pub returns-then-not-is_well_formed : goal.returns-then-not-is_well_formed
returns-then-not-is_well_formed c =
    let step = not-row seat seat_count c.args.table.now c.loop-i.i free_seat is_well_formed_seat _
    c.loop-i-test.true c.at.ensures _ c.is_well_formed.ensures c.if-not-is_well_formed.true in
    sym (c.loop-i.invariant ∙ step)

pub returns : goal.returns
returns c =
    sym (c.loop-i.invariant ∙ all-rows seat seat_count c.args.table.now c.loop-i.i free_seat is_well_formed_seat c.loop-i-test.false)
