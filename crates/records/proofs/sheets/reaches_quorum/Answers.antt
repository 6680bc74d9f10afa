use mathlib.Core.Path.{◌≡◌, ap}
use Prim.Native.Nat.{◌^◌, ◌<◌}
use native.Mathlib.Nat.{zero-add}
use native.Mathlib.Omega.{arith}
use lib.Dec.{leb}
use lib.ListN.{length}
use Rattle.state.specs.Seats.{free_seat}
use Rattle.records.specs.Sheet.{rows_of, counts, counted_seats}
use Rattle.records.proofs.Bits.{count_bits}
use borrow.Author.Rules.{rules}
use Rattle.records.proofs.sheets.reaches_quorum.Goals as goal

pub returns : goal.returns
unfolding counted_seats
returns c =
    let m = c.seen_seats in
    let a = c.args in
    let size : length a.seats ≡ 32 = search rules in
    let below : m.result < 2 ^ length a.seats = rw size (omega arith) in
    ap (leb a.quorum) (count_bits (counts (rows_of a.b.now)) free_seat 0 m.result a.seats below (λ k. rw zero-add (m.ensures k)))
