-- The number that a start gives is the lowest that applies.
use mathlib.Core.Path.{◌≡◌, refl, sym}
use mathlib.Core.Logic.{◌⊎◌, inl, inr}
use mathlib.Core.Bool.{Bool, true, false, not, ◌&&◌, and-eq-true_iff}
use mathlib.Core.List.{List}
use Prim.Native.Nat.{ℕ}
use native.Mathlib.Omega.{arith}
use lib.Dec.{eqb, ltb}
use borrow.Author.Tests.{eqb-true, eqb-false, lt-ltb}
use Rattle.lists.specs.Fold.{all}
use Rattle.lists.proofs.Tests.{cond_cases, or-false-of}
use Rattle.lists.proofs.Every.{all_of, all_get_d}
use Rattle.state.specs.declared.Seat.{Seat}
use Rattle.state.specs.declared.State.{State}
use Rattle.state.specs.Time.{cycle, is_before_cycle}
use Rattle.state.specs.Minima.{is_in_force}
use Rattle.state.specs.Seats.{free, certified, present, retired, seat_at, is_active}
use Rattle.state.specs.WellFormed.{is_trustee_count, is_well_formed_seat, is_well_formed}
use Rattle.state.proofs.SeatLaws.{well-formed-held}
use Rattle.records.specs.declared.Start.{Start}
use Rattle.std.specs.Prelude.{Option, Some, None}
use Rattle.records.specs.StartQuery.{read_start}
use Rattle.checkpoint.specs.Checkpoint.{is_checkpoint, read_checkpoint}
use Rattle.checkpoint.proofs.Fields.{read_ok, read-well-formed}
use Rattle.verdicts.specs.Verdicts.{start_refusal}
use Rattle.node.specs.Reply.{StartReply}
use Rattle.node.specs.Answers.{start_number}
use Rattle.node.specs.Start.{start_read, start_of}
use Rattle.node.specs.Claims.{StartRefused, start-malformed, checkpoint-malformed, seat-unfit, life-below}
use Rattle.node.specs.Applies as Table
use Rattle.node.specs.Applies.{number_given, Tries, Starts, of-checkpoint, of-start, starting, Applies, no-1, no_9, no-14}
use Rattle.refusals.proofs.UpTo.{UpTo, reaches}

-- ---- a number that is given applies

-- A seat of a well-formed state that is neither certified nor present is free or retired.
unfit-seat : (x : Seat) → is_well_formed_seat x ≡ true → is_active x ≡ false → (x.standing ≡ free) ⊎ (x.standing ≡ retired)
unfit-seat x w e = by (eqb x.standing free) refl
  where
    by : (b : Bool) → eqb x.standing free ≡ b → (x.standing ≡ free) ⊎ (x.standing ≡ retired)
    by true f = inl (eqb-true _ _ f)
    by false f =
        let held = well-formed-held x w (eqb-false _ _ f) in
        let apart = or-false-of (eqb x.standing certified) _ e in
        let not-certified = eqb-false x.standing certified apart.0 in
        let not-present = eqb-false x.standing present apart.1 in
        inr (omega arith)

-- A seat of a well-formed state, or of a well-formed checkpoint.
state-seat : (s : State) (i : ℕ) → is_well_formed s ≡ true → is_well_formed_seat (seat_at i s.seats) ≡ true
unfolding is_well_formed
state-seat s i w =
    let e1 = (and-eq-true_iff (is_before_cycle (cycle 0) s.cycle) _).0 w in
    let e2 = (and-eq-true_iff (is_trustee_count s.trustees1 && (is_trustee_count s.trustees2 && is_in_force s.minima)) _).0 e1.1 in
    let e3 = (and-eq-true_iff (all is_well_formed_seat s.seats) _).0 e2.1 in
    all_get_d i (all_of is_well_formed_seat s.seats e3.0) refl

checkpoint-seat : (cb : List ℕ) (i : ℕ) → is_checkpoint cb ≡ true → is_well_formed_seat (seat_at i (read_checkpoint cb).state.seats) ≡ true
checkpoint-seat cb i e = state-seat (read_checkpoint cb).state i (read-well-formed cb e)

pub start-applies : {cb sb : List ℕ} {k : ℕ} → StartRefused cb sb k → Tries (Table.start cb sb) k × Applies (Table.start cb sb) k
start-applies (start-malformed e r) = (inl e, rw e (no-1 (of-start r)))
start-applies (checkpoint-malformed e r) = (inl e, rw e (no-1 (of-checkpoint r)))
start-applies {cb} (seat-unfit x e rx rc r) =
    let seat = seat_at x.seat (read_checkpoint cb).state.seats in
    let unfit = unfit-seat seat (checkpoint-seat cb x.seat rc) r in
    (inr (inl e), rw e (no_9 (starting (record { checkpoint = rc; record-read = rx; named = refl }) unfit)))
start-applies (life-below x e rx rc r) = (inr (inr e), rw e (no-14 (starting (record { checkpoint = rc; record-read = rx; named = refl }) r)))

-- ---- no number above one that applies is given

-- the number of the reply
read_number : (s : State) (x : Start) → start_number (start_read s x).answer ≡ start_refusal s x
unfolding start_read
read_number s x =
    cond_cases (λ (r : StartReply). start_number r.answer ≡ start_refusal s x) (eqb (start_refusal s x) 0) (λ e. sym (eqb-true _ 0 e)) (λ _. refl)

by_read : {cb sb : List ℕ} {y : Start} {seat : Seat} {j : ℕ} → Starts cb sb y seat → UpTo j (start_refusal (read_checkpoint cb).state y)
    → UpTo j (number_given (Table.start cb sb))
unfolding start_of
by_read {cb} {y = y} st h = rw (st.record-read, read_ok cb, st.checkpoint, read_number (read_checkpoint cb).state y) h

not-checkpoint : (cb sb : List ℕ) → is_checkpoint cb ≡ false → UpTo 1 (number_given (Table.start cb sb))
unfolding start_of
not-checkpoint cb sb rc = by (read_start sb) refl
  where
    by : (o : Option Start) → read_start sb ≡ o → UpTo 1 (number_given (Table.start cb sb))
    by None e = rw e (omega arith)
    by (Some x) e = rw (e, read_ok cb, rc) (omega arith)

unfit-inactive : (x : Seat) → (x.standing ≡ free) ⊎ (x.standing ≡ retired) → not (is_active x) ≡ true
unfit-inactive x (inl e) = rw e
unfit-inactive x (inr e) = rw e

pub start-up-to : {cb sb : List ℕ} {j : ℕ} → Applies (Table.start cb sb) j → UpTo j (number_given (Table.start cb sb))
unfolding start_of start_refusal
start-up-to {cb} {sb} (no-1 (of-checkpoint e)) = not-checkpoint cb sb e
start-up-to (no-1 (of-start e)) = rw e (omega arith)
start-up-to {cb} (no_9 (starting {y = y} {seat = seat} st h)) =
    let e : not (is_active (seat_at y.seat (read_checkpoint cb).state.seats)) ≡ true = rw st.named at (unfit-inactive seat h) in
    by_read st (search reaches depth 12)
start-up-to {cb} (no-14 (starting {y = y} {seat = seat} st h)) =
    let e : ltb y.life (seat_at y.seat (read_checkpoint cb).state.seats).life ≡ true = rw st.named at (lt-ltb y.life seat.life h) in
    by_read st (search reaches depth 12)
start-up-to {cb = cb} {sb = sb} (Table.no-11 x4) = elim x4 [ ]
start-up-to {cb = cb} {sb = sb} (Table.no-13 x5) = elim x5 [ ]
