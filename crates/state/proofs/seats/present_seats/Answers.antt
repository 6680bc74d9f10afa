use Prim.Native.Nat.{◌<◌, ◌≤◌}
use native.Mathlib.Omega.{arith}
use lib.ListN.{length}
use Rattle.std.proofs.Common.{rules}
use Rattle.lists.proofs.Library.{flag-small, flag-counted}
use Rattle.lists.proofs.Loops.{count-end}
use Rattle.state.specs.Seats.{free_seat, is_present, present_seats}
use Rattle.state.proofs.seats.present_seats.Goals as goal

pub loop-seat-preserved : goal.loop-seat-preserved
loop-seat-preserved c =
    let seats = c.args.seats in
    let i = c.loop-seat.seat-index in
    let inside : i < length seats = search rules in
    let small = flag-small c.is_present.result in
    let next = flag-counted is_present free_seat seats i c.from-n.result inside (rw (← c.is_present.ensures) c.from-n.ensures) in
    (omega (arith, c.from-n.ensures), omega arith)

pub returns : goal.returns
unfolding present_seats
returns c =
    let past : length c.args.seats ≤ c.loop-seat.seat-index = search rules in
    (omega (arith, count-end is_present c.args.seats c.loop-seat.seat-index past), omega arith)
