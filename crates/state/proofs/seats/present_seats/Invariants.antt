use Prim.Native.Nat.{◌+◌, ◌≤◌}
use mathlib.Core.Path.{◌≡◌}
use lib.ListN.{drop}
use Rattle.lists.specs.Fold.{count}
use Rattle.state.specs.Seats.{is_present}
use Rattle.state.proofs.seats.present_seats.Given as goal

abbrev pub invariant-loop-seat : goal.invariant-loop-seat
invariant-loop-seat l = (l.n ≤ l.seat-index) × (l.n + count is_present (drop l.seat-index l.seat-items) ≡ count is_present l.seat-items)
