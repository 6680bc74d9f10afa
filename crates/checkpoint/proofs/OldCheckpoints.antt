-- A checkpoint that was well formed in an edition that wrote kind 16 is, and is read as it was.
use mathlib.Core.Path.{◌≡◌, refl}
use mathlib.Core.Bool.{Bool, true, false, cond, not, ◌&&◌, ◌||◌, and_comm, or-true, and-eq-true_iff, false≢true}
use mathlib.Core.List.{List, Memᴰ}
use Prim.Native.Nat.{ℕ, ◌/◌, ◌%◌, ◌^◌, ◌<◌}
use native.Mathlib.Omega.{arith}
use lib.Dec.{eqb, ltb, leb}
use borrow.Author.Tests.{eqb-true, ltb-true, lt-ltb, le-leb}
use Rattle.lists.specs.Fold.{all}
use Rattle.lists.specs.Table.{rising_from}
use Rattle.lists.proofs.Every.{all_of, all-to, all_map}
use Rattle.lists.proofs.Members.{all_in, all-members}
use Rattle.binary.specs.Number.{is_record}
use Rattle.state.specs.declared.Day.{Day}
use Rattle.state.specs.declared.Cycle.{Cycle}
use Rattle.state.specs.declared.Minima.{Minima}
use Rattle.state.specs.declared.Subject.{Subject}
use Rattle.state.specs.declared.Proposal.{Proposal}
use Rattle.state.specs.declared.State.{State}
use Rattle.state.specs.Limits.{seat_count, most_notice}
use Rattle.state.specs.Kinds.{kind_certify, kind_minima, kind_remove, kind_rejoin}
use Rattle.state.specs.Time.{is_before_day, is_before_cycle, cycle}
use Rattle.state.specs.Minima.{is_in_range, is_in_force}
use Rattle.state.specs.Seats.{present_seats, quorum_of}
use Rattle.state.specs.Subjects.{minima_in, is_seat_and_life, is_certify, is_minima, is_remove, is_subject}
use Rattle.state.specs.Rows.{is_proposal}
use Rattle.state.specs.WellFormed.{is_well_formed_seat, is_blank_proposal, is_well_formed_proposal, cycle_of, is_trustee_count}
use Rattle.state.specs.WellFormed.{are_well_formed_proposals, are_well_formed_logins, is_well_formed}
use Rattle.checkpoint.specs.Format.{current, earlier, earlier_notices, counted}
use Rattle.checkpoint.specs.Checkpoint.{decode_as, is_of, is_checkpoint}
use Rattle.checkpoint.specs.Editions.{was_certify, was_in_range, was_minima, was_subject, was_well_formed_proposal, passes, holds, was_well_formed}
use Rattle.checkpoint.specs.Editions.{was_checkpoint, WasProposable, OldCheckpointsRead}
use Rattle.checkpoint.proofs.Fields.{read-earlier}

-- ---- a test within others

later : (a : Bool) {p q : Bool} → (p ≡ true → q ≡ true) → (a && p) ≡ true → (a && q) ≡ true
later true f e = f e
later false f e = e

-- where the first holds, what it tells may be used
told : (a : Bool) {p q : Bool} → (a ≡ true → p ≡ true → q ≡ true) → (a && p) ≡ true → (a && q) ≡ true
told true f e = f refl e
told false f e = e

sooner : (p q b : Bool) → (p ≡ true → q ≡ true) → (p && b) ≡ true → (q && b) ≡ true
sooner true q b f e = rw (f refl) e
sooner false q b f e = absurd (false≢true e)

chosen : (u z : Bool) {p q : Bool} → (p ≡ true → q ≡ true) → cond u p z ≡ true → cond u q z ≡ true
chosen true z f e = f e
chosen false z f e = e

either : (p p' q q' : Bool) → (p ≡ true → p' ≡ true) → (q ≡ true → q' ≡ true) → (p || q) ≡ true → (p' || q') ≡ true
either true p' q q' f g e = rw (f refl)
either false p' q q' f g e = rw (g e) (or-true p')

moved : (a b c : Bool) → ((a && b) && c) ≡ (a && (c && b))
moved true b c = and_comm b c
moved false b c = refl

-- ---- the subjects

same-certify : (a : ℕ) → is_certify a ≡ was_certify a
unfolding is_certify is_seat_and_life
same-certify a = moved (ltb (a % 256) seat_count) (ltb a (256 ^ 5)) (leb 1 (a / 256))

-- the ranges, where the notices are within theirs
was-in-range : (x : Minima) → is_in_range x ≡ true → was_in_range x ≡ true
unfolding is_in_range
was-in-range x e =
    let t = simp and-eq-true_iff at e in
    simp and-eq-true_iff (t.0, (t.1.0, t.1.1.0))

now-in-range : (x : Minima) → (leb x.notices.ordinary most_notice && leb x.notices.restart most_notice) ≡ true → was_in_range x ≡ true
    → is_in_range x ≡ true
unfolding is_in_range
now-in-range x n e =
    let t = simp and-eq-true_iff at e in
    simp and-eq-true_iff (t.0, (t.1.0, (t.1.1, simp and-eq-true_iff at n)))

was-minima : (a : ℕ) → was_minima a ≡ true → is_minima a ≡ true
unfolding is_minima
was-minima a e =
    let t = (and-eq-true_iff (was_in_range (minima_in a)) _).0 e in
    let low = ltb-true a (256 ^ 4) t.1 in
    let ordinary = le-leb (a / 256 ^ 4 % 256) most_notice (omega arith) in
    let restart = le-leb (a / 256 ^ 5 % 256) most_notice (omega arith) in
    rw (now-in-range (minima_in a) (rw (ordinary, restart)) t.0) (lt-ltb a (256 ^ 6) (omega arith))

same-minima : (a : ℕ) → a < 256 ^ 4 → is_minima a ≡ true → was_minima a ≡ true
unfolding is_minima
same-minima a low e =
    let t = (and-eq-true_iff (is_in_range (minima_in a)) _).0 e in
    rw (was-in-range (minima_in a) t.0) (lt-ltb a (256 ^ 4) low)

module _ (rejoins : Bool) (x : Subject) where
  abbrev certify : Bool
  certify = eqb x.kind kind_certify

  abbrev removes : Bool
  removes = eqb x.kind kind_remove && is_remove x.arguments

  abbrev restarts : Bool
  restarts = eqb x.kind kind_rejoin && is_seat_and_life x.arguments

  was-subject : was_subject rejoins x ≡ true → is_subject x ≡ true
  unfolding is_subject
  was-subject =
      either _ _ _ _ (later certify (λ e. rw (same-certify x.arguments) e))
      (either _ _ _ _ (later (eqb x.kind kind_minima) (was-minima x.arguments))
      (either removes removes _ _ (λ e. e) (λ e. ((and-eq-true_iff rejoins restarts).0 e).1)))

  same-subject : WasProposable rejoins x → is_subject x ≡ true → was_subject rejoins x ≡ true
  unfolding is_subject
  same-subject w =
      either _ _ _ _ (later certify (λ e. rw (← same-certify x.arguments) e))
      (either _ _ _ _ (told (eqb x.kind kind_minima) (λ k e. same-minima x.arguments (w.minima (eqb-true _ _ k)) e))
      (either removes removes _ _ (λ e. e) (by rejoins refl)))
    where
      by : (t : Bool) → rejoins ≡ t → restarts ≡ true → (t && restarts) ≡ true
      by true r e = e
      by false r e = absurd (w.rejoin r (eqb-true _ _ ((and-eq-true_iff (eqb x.kind kind_rejoin) _).0 e).0))

-- ---- a row, a state and a checkpoint, well formed in one edition where they are in the other

module _ (c : Cycle) (d : Day) (r : Proposal) where
  in_row : {p q : Bool} → (p ≡ true → q ≡ true)
      → cond (is_proposal r) (is_before_cycle r.cycle c && (not (is_before_day d r.day) && p)) (is_blank_proposal r) ≡ true
      → cond (is_proposal r) (is_before_cycle r.cycle c && (not (is_before_day d r.day) && q)) (is_blank_proposal r) ≡ true
  in_row f = chosen (is_proposal r) (is_blank_proposal r) (later (is_before_cycle r.cycle c) (later (not (is_before_day d r.day)) f))

in-state : (s : State) {m n p q : Bool} → (m ≡ true → n ≡ true) → (p ≡ true → q ≡ true) → passes s m p ≡ true → passes s n q ≡ true
in-state s {m} {n} {p} {q} g f =
    let rising = rising_from is_proposal cycle_of 0 s.proposals in
    let one = is_trustee_count s.trustees1 in
    let two = is_trustee_count s.trustees2 in
    let rest : (all is_well_formed_seat s.seats
    && (leb (quorum_of s) (present_seats s.seats) && ((rising && p) && are_well_formed_logins s.logins))) ≡ true
    → (all is_well_formed_seat s.seats
    && (leb (quorum_of s) (present_seats s.seats) && ((rising && q) && are_well_formed_logins s.logins))) ≡ true =
    later (all is_well_formed_seat s.seats) (later (leb (quorum_of s) (present_seats s.seats))
    (sooner (rising && p) (rising && q) (are_well_formed_logins s.logins) (later rising f))) in
    later (is_before_cycle (cycle 0) s.cycle)
    (λ e. later (one && (two && n)) rest (sooner (one && (two && m)) (one && (two && n)) _ (later one (later two g)) e))

-- the minima of a state with the notices 7 and 2
was-in-force : (x : Minima) → x.notices ≡ earlier_notices → was_in_range x ≡ true → is_in_force x ≡ true
unfolding is_in_force
was-in-force x e r = rw (now-in-range x (rw e) r, e)

same-in-force : (x : Minima) → is_in_force x ≡ true → was_in_range x ≡ true
unfolding is_in_force
same-in-force x e = was-in-range x ((and-eq-true_iff (is_in_range x) _).0 e).0

was-state : (rejoins : Bool) (s : State) → s.minima.notices ≡ earlier_notices → was_well_formed rejoins s ≡ true → is_well_formed s ≡ true
unfolding is_well_formed are_well_formed_proposals
was-state rejoins s n =
    in-state s (was-in-force s.minima n) (λ e. all-to _ (all_map (λ r. in_row s.cycle s.day r (was-subject rejoins r.subject))
    (all_of (was_well_formed_proposal rejoins s.cycle s.day) s.proposals e)))

same-state : (rejoins : Bool) (s : State) → ((r : Proposal) → Memᴰ r s.proposals → WasProposable rejoins r.subject) → is_well_formed s ≡ true
    → was_well_formed rejoins s ≡ true
unfolding is_well_formed are_well_formed_proposals
same-state rejoins s n =
    in-state s (same-in-force s.minima)
    (λ e. all-to _ (all-members s.proposals (λ r m. in_row s.cycle s.day r (same-subject rejoins r.subject (n r m))
    (all_in (all_of (is_well_formed_proposal s.cycle s.day) s.proposals e) m))))

in-checkpoint : (b : List ℕ) {p q : Bool} → (p ≡ true → q ≡ true) → holds b p ≡ true → holds b q ≡ true
in-checkpoint b f =
    let c = decode_as earlier b in
    later (is_record earlier.length earlier.kind b)
    (later (eqb c.proposals (counted c.state).proposals && eqb c.logins (counted c.state).logins) f)

seven-and-two : (b : List ℕ) → (decode_as earlier b).state.minima.notices ≡ earlier_notices
unfolding decode_as
seven-and-two b = refl

pub old-checkpoints-read : OldCheckpointsRead
unfolding is_of is_checkpoint
old-checkpoints-read rejoins b = record {
  old-read = λ e.
      let now : is_of earlier b ≡ true = in-checkpoint b (was-state rejoins (decode_as earlier b).state (seven-and-two b)) e in
      (rw now (or-true (is_of current b)), rw (read-earlier b now, e));
  new-read = λ e n.
      let was : was_checkpoint rejoins b ≡ true = in-checkpoint b (same-state rejoins (decode_as earlier b).state (rw (read-earlier b e) at n)) e in
      (was, rw (read-earlier b e, was));
}
