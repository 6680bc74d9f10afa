-- "Own part: seat, life, the announcement voted for in this cycle if any, misses (0 to 10).": the misses stand on the next page.
use Rattle.std.specs.Prelude.{ℕ, List, Bool, true, false, not, ◌&&◌, eqb, replicate}
use Rattle.binary.specs.Number.{is_same_bytes}
use Rattle.state.specs.declared.Seat.{Seat}
use Rattle.state.specs.declared.State.{State}
use Rattle.state.specs.Seats.{retired, seat_at, is_present}
use Rattle.records.specs.Layout.{announcement_size}
use Rattle.verdicts.specs.declared.Own.{Own}

-- the seat of the own part, as the state lists it
abbrev pub held_seat : State → Own → Seat
held_seat s o = seat_at o.seat s.seats

-- "A node whose own seat is retired is halted."
abbrev pub is_halted : State → Own → Bool
is_halted s o = eqb (held_seat s o).standing retired

-- "own seat not present or own life not listed" does not apply
abbrev pub can_vote : State → Own → Bool
can_vote s o = is_present (held_seat s o) && eqb (held_seat s o).life o.life

-- "voted for other bytes this cycle"
abbrev pub voted_otherwise : Own → List ℕ → Bool
voted_otherwise o announcement = o.voted && not (is_same_bytes o.vote announcement)

abbrev pub no_vote : List ℕ
no_vote = replicate announcement_size 0

-- no vote
abbrev pub own_afresh : ℕ → ℕ → Own
own_afresh seat life = record { seat = seat; life = life; voted = false; vote = no_vote }

abbrev pub with_vote : List ℕ → Own → Own
with_vote announcement o = record { seat = o.seat; life = o.life; voted = true; vote = announcement }
