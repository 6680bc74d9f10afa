use Prim.Native.Nat.{◌+◌, ◌≤◌}
use mathlib.Core.Path.{◌≡◌}
use lib.ListN.{drop}
use Rattle.lists.specs.Fold.{count}
use Rattle.binary.specs.Codec.{decode_rows}
use Rattle.state.specs.Limits.{seat_count}
use Rattle.state.specs.Seats.{is_present}
use Rattle.checkpoint.specs.Format.{seat}
use Rattle.checkpoint.proofs.check.count_present.Given as goal

abbrev pub invariant-loop-i : goal.invariant-loop-i
invariant-loop-i l = (l.n ≤ l.i) × (l.n + count is_present (drop l.i (decode_rows seat seat_count l.table)) ≡ count is_present (decode_rows seat seat_count l.table))
