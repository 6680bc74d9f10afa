use mathlib.Core.Path.{◌≡◌}
use lib.ListN.{drop}
use Rattle.lists.specs.Fold.{all}
use Rattle.binary.specs.Codec.{decode_rows}
use Rattle.state.specs.Limits.{seat_count}
use Rattle.state.specs.WellFormed.{is_well_formed_seat}
use Rattle.checkpoint.specs.Format.{seat}
use Rattle.checkpoint.proofs.check.are_well_formed_seats.Given as goal

abbrev pub invariant-loop-i : goal.invariant-loop-i
invariant-loop-i l = all is_well_formed_seat (decode_rows seat seat_count l.table) ≡ all is_well_formed_seat (drop l.i (decode_rows seat seat_count l.table))
