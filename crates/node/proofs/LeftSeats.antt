-- Rule 12 in words: the present seats and the quorum that an announcement of kind 3, 5 or 6 leaves.
use mathlib.Core.Path.{◌≡◌, refl, ap}
use mathlib.Core.Logic.{◌≢◌}
use mathlib.Core.Bool.{Bool, true, false, cond}
use Prim.Native.Nat.{ℕ, ◌+◌, ◌-◌, ◌<◌}
use native.Mathlib.Omega.{arith}
use lib.Dec.{eqb, leb, ltb}
use lib.ListN.{length, get_or-eq_default}
use borrow.Author.Tests.{leb-true, leb-false, lt-ltb, ltb-true}
use Rattle.state.specs.declared.Minima.{Minima}
use Rattle.state.specs.declared.Seat.{Seat}
use Rattle.state.specs.declared.State.{State}
use Rattle.state.specs.Seats.{free, free_seat, certified, present, retired, seat_at, set_seat, is_present, is_active, present_seats, quorum, quorum_of}
use Rattle.state.proofs.SeatLaws.{present-set, active-not-free}
use Rattle.records.specs.declared.Announcement.{Announcement}
use Rattle.records.specs.declared.Action.TheVariants as Kind
use Rattle.rules.specs.Rules.{present_without}
use Rattle.actions.specs.Perform.{with_standing, effect, use_proposal, act, advance, perform}

-- the announcement leaves p present seats, and the quorum of p, m and k
pub record Leaves (s : State) (a : Announcement) (p m k : ℕ) : Type 0 where
  pub present-seats : present_seats (perform s a).seats ≡ p
  pub quorum-left : quorum_of (perform s a) ≡ quorum p m k

-- "would leave quorum above p", by the numbers
module _ {s : State} {a : Announcement} {p m k : ℕ} (l : Leaves s a p m k) where
  pub too_few : present_seats (perform s a).seats < quorum_of (perform s a) → ltb p (quorum p m k) ≡ true
  too_few h = lt-ltb _ _ (rw (l.present-seats, l.quorum-left) at h)

  pub few-left : ltb p (quorum p m k) ≡ true → present_seats (perform s a).seats < quorum_of (perform s a)
  few-left e = rw (l.present-seats, l.quorum-left) (ltb-true _ _ e)

-- the present seats where seat i gets this standing
abbrev present_with : State → ℕ → ℕ → ℕ
present_with s i standing = present_seats (set_seat i standing (seat_at i s.seats).life s.seats)

module _ (s : State) (a : Announcement) where
  -- A seat that is not free is a seat of the table.
  restanded : (i standing : ℕ) → (seat_at i s.seats).standing ≢ free
      → present_with s i standing + cond (is_present (seat_at i s.seats)) 1 0 ≡ present_seats s.seats + cond (eqb standing present) 1 0
  restanded i standing held = by (leb (length s.seats) i) refl
    where
      by : (b : Bool) → leb (length s.seats) i ≡ b
          → present_with s i standing + cond (is_present (seat_at i s.seats)) 1 0 ≡ present_seats s.seats + cond (eqb standing present) 1 0
      by true e = absurd (held (ap (λ (x : Seat). x.standing) (get_or-eq_default s.seats free_seat (leb-true _ _ e))))
      by false e = present-set s.seats i standing _ (leb-false _ _ e)

  pub presents-leaves : (i : ℕ) → a.action ≡ Kind.Presents i true → (seat_at i s.seats).standing ≡ certified
      → Leaves s a (present_seats s.seats + 1) s.minima.margin s.minima.least
  unfolding perform advance act effect use_proposal with_standing quorum_of
  presents-leaves i e st =
      let q = rw st at (restanded i present (λ z. omega arith)) in
      let p : present_with s i present ≡ present_seats s.seats + 1 = omega arith in
      record { present-seats = rw e p; quorum-left = rw (e, p) }

  pub back-leaves : (i : ℕ) → a.action ≡ Kind.Presents i false → (seat_at i s.seats).standing ≡ present
      → Leaves s a (present_seats s.seats - 1) s.minima.margin s.minima.least
  unfolding perform advance act effect use_proposal with_standing quorum_of
  back-leaves i e st =
      let q = rw st at (restanded i certified (λ z. omega arith)) in
      let p : present_with s i certified ≡ present_seats s.seats - 1 = omega arith in
      record { present-seats = rw e p; quorum-left = rw (e, p) }

  pub minima-leaves : (x : Minima) → a.action ≡ Kind.Minima x → Leaves s a (present_seats s.seats) x.margin x.least
  unfolding perform advance act effect use_proposal quorum_of
  minima-leaves x e = record { present-seats = rw e; quorum-left = rw e }

  pub remove-leaves : (i : ℕ) → a.action ≡ Kind.Remove i → is_active (seat_at i s.seats) ≡ true
      → Leaves s a (present_without (seat_at i s.seats) (present_seats s.seats)) s.minima.margin s.minima.least
  unfolding perform advance act effect use_proposal with_standing quorum_of present_without
  remove-leaves i e active =
      let seat = seat_at i s.seats in
      let q = restanded i retired (active-not-free seat active) in
      let p : present_with s i retired ≡ present_seats s.seats - cond (is_present seat) 1 0 = omega arith in
      record { present-seats = rw e p; quorum-left = rw (e, p) }
