-- Which seats are well formed, and the number of present seats after one seat was set.
use mathlib.Core.Path.{◌≡◌}
use mathlib.Core.Logic.{◌≢◌}
use mathlib.Core.Bool.{true, cond, and-eq-true_iff, false≢true}
use mathlib.Core.List.{List}
use Prim.Native.Nat.{ℕ, ◌+◌, ◌≤◌, ◌<◌}
use native.Mathlib.Omega.{arith}
use lib.Dec.{eqb, leb}
use lib.ListN.{length}
use borrow.Author.Tests.{ne_eqb, leb-true, le-leb}
use Rattle.lists.proofs.Count.{count_set}
use Rattle.state.specs.declared.Seat.{Seat}
use Rattle.state.specs.Seats.{free, free_seat, present, seat_at, set_seat, is_present, is_active, present_seats}
use Rattle.state.specs.WellFormed.{is_well_formed_seat}

-- a standing from certified to retired, and a life
pub record IsHeld (x : Seat) : Type 0 where
  pub low : 1 ≤ x.standing
  pub high : x.standing ≤ 3
  pub life : 1 ≤ x.life

-- A seat that is not free is well formed exactly so.
pub held-well-formed : (x : Seat) → IsHeld x → is_well_formed_seat x ≡ true
held-well-formed x h = rw
    (ne_eqb x.standing 0 (λ e. let l = h.low in omega arith), le-leb x.standing 3 h.high, le-leb 1 x.life h.life)

pub well-formed-held : (x : Seat) → is_well_formed_seat x ≡ true → x.standing ≢ free → IsHeld x
well-formed-held x e n =
    let h = (and-eq-true_iff (leb x.standing 3) (leb 1 x.life)).0 (rw (ne_eqb x.standing 0 n) at e) in
    record { low = omega arith; high = leb-true _ _ h.0; life = leb-true _ _ h.1 }

-- A certified or present seat is not free.
pub active-not-free : (x : Seat) → is_active x ≡ true → x.standing ≢ free
active-not-free x e z = false≢true (rw z at e)

-- The number of present seats after seat i was set.
pub present-set : (seats : List Seat) (i standing life : ℕ) → i < length seats
    → present_seats (set_seat i standing life seats) + cond (is_present (seat_at i seats)) 1 0 ≡ present_seats seats + cond (eqb standing present) 1 0
unfolding present_seats
present-set seats i standing life h = count_set is_present seats i _ free_seat h
