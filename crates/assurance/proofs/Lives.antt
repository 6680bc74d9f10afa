-- Lives, days and standings along the chain.
use mathlib.Core.Path.{◌≡◌, refl, sym, ap, subst}
use mathlib.Core.Logic.{◌≢◌, ◌⊎◌, inl, inr}
use mathlib.Core.Bool.{true, false, and-eq-true_iff, and-false, false≢true}
use mathlib.Core.List.{List, [], ◌∷◌}
use Prim.Native.Nat.{ℕ, zero, suc, ◌≤◌}
use native.Mathlib.Omega.{arith}
use lib.Dec.{eqb}
use lib.ListN.{get_or, set}
use borrow.Author.Tests.{eqb-true, ne_eqb}
use Rattle.lists.proofs.Every.{all_of, all_get_d, set_keeps}
use Rattle.state.specs.declared.Day.{Day}
use Rattle.state.specs.declared.Seat.{Seat}
use Rattle.state.specs.declared.State.{State}
use Rattle.state.specs.Seats.{free, free_seat, retired, seat_at, is_active}
use Rattle.state.specs.WellFormed.{is_well_formed_seat, is_well_formed}
use Rattle.records.specs.declared.Announcement.{Announcement}
use Rattle.records.specs.declared.Action.{Action}
use Rattle.records.specs.declared.Action.TheVariants.{Propose, Cancel, Presents, Certify, Minima, Remove, Rejoin, Grant, End}
use Rattle.checkpoint.specs.Checkpoint.{read_checkpoint}
use Rattle.actions.specs.Perform.{perform, advance, without_lapsed, act, with_standing, with_life, use_proposal, effect}
use Rattle.actions.specs.Claims.{WellFormed, Found}
use Rattle.agreement.specs.History.{History}
use Rattle.agreement.specs.Claims.{Park}
use Rattle.agreement.specs.Chain.{Step, Reached, origin, next}
use Rattle.agreement.proofs.Demand.{advances}
use Rattle.assurance.specs.Lives.{Rises, NeverFalls, Stems, at_first, certified, rejoined, LivesStem, EarlierLivesNeverCount}
use Rattle.assurance.proofs.Facts.{step-well-formed, step-found}
use Rattle.assurance.proofs.Notice.{always-noticed}

-- a free seat of a well-formed state has life 0
free-life : (s : State) (i : ℕ) → WellFormed s → (seat_at i s.seats).standing ≡ free → (seat_at i s.seats).life ≡ 0
unfolding is_well_formed
free-life s i w e =
    let seats = (simp and-eq-true_iff at w.well-formed).1.1.0 in
    let x = all_get_d {d = free_seat} i (all_of is_well_formed_seat s.seats seats) refl in
    eqb-true _ _ (rw e at x)

module _ (s : State) (a : Announcement) (i : ℕ) (w : WellFormed s) where
  abbrev here : Seat
  here = seat_at i s.seats

  -- the state that the action sees
  abbrev seen : State
  seen = without_lapsed a.day s

  -- the life after an action
  life-after : (x : Action) → Found seen a.day x → here.life ≤ (seat_at i (act seen a.day x).seats).life
  unfolding act with_standing with_life use_proposal effect
  life-after (Propose x) f = omega arith
  life-after (Cancel c) f = omega arith
  life-after (Presents j flag) f = set_keeps (λ (y : Seat). here.life ≤ y.life) s.seats i j _ free_seat (λ e. rw e (omega arith)) (omega arith)
  life-after (Certify j life) f = set_keeps (λ (y : Seat). here.life ≤ y.life) s.seats i j _ free_seat
      (λ e. let z = free-life s i w (rw e f) in omega arith) (omega arith)
  life-after (Minima x) f = omega arith
  life-after (Remove j) f = set_keeps (λ (y : Seat). here.life ≤ y.life) s.seats i j _ free_seat (λ e. rw e (omega arith)) (omega arith)
  life-after (Rejoin j life) f = set_keeps (λ (y : Seat). here.life ≤ y.life) s.seats i j _ free_seat (λ e. rw e (let z = f.1 in omega arith))
      (omega arith)
  life-after (Grant x) f = omega arith
  life-after (End login) f = omega arith

  -- a retired seat after an action
  retired-after : (x : Action) → Found seen a.day x → here.standing ≡ retired → (seat_at i (act seen a.day x).seats).standing ≡ retired
  unfolding act with_standing with_life use_proposal effect
  retired-after (Propose x) f r = r
  retired-after (Cancel c) f r = r
  retired-after (Presents j true) f r = set_keeps (λ (y : Seat). y.standing ≡ retired) s.seats i j _ free_seat
      (λ e. absurd (let z = rw (← e, r) at f in omega arith)) r
  retired-after (Presents j false) f r = set_keeps (λ (y : Seat). y.standing ≡ retired) s.seats i j _ free_seat
      (λ e. absurd (let z = rw (← e, r) at f in omega arith)) r
  retired-after (Certify j life) f r = set_keeps (λ (y : Seat). y.standing ≡ retired) s.seats i j _ free_seat
      (λ e. absurd (let z = rw (← e, r) at f in omega arith)) r
  retired-after (Minima x) f r = r
  retired-after (Remove j) f r = set_keeps (λ (y : Seat). y.standing ≡ retired) s.seats i j _ free_seat (λ e. refl) r
  retired-after (Rejoin j life) f r = set_keeps (λ (y : Seat). y.standing ≡ retired) s.seats i j _ free_seat (λ e. rw (← e) r) r
  retired-after (Grant x) f r = r
  retired-after (End login) f r = r

module _ (first : List ℕ) (calls : History) (park : Park first calls) (i : ℕ) where
  -- one step
  step-rises : (s : State) (a : Announcement) → Step calls s a → Rises i s (perform s a)
  unfolding perform advance
  step-rises s a x =
      let w = step-well-formed first calls park s a x in
      let f = step-found first calls park s a x in
      record {
        life = life-after s a i w a.action f;
        day = (advances first calls park s a x).not-before;
        stays-retired = retired-after s a i w a.action f;
      }

  pub rises : {s u : State} → Reached s (Step calls) u → Rises i s u
  rises {s} (origin e) = subst (Rises i s) (sym e) (record { life = omega arith; day = omega arith; stays-retired = λ r. r })
  rises {s} (next r a R x e) =
      let b = rises R in
      let c = step-rises r a x in
      let l = b.life in
      let m = c.life in
      let d = b.day in
      let f = c.day in
      subst (Rises i s) (sym e) (record { life = omega arith; day = omega arith; stays-retired = λ z. c.stays-retired (b.stays-retired z) })

pub never-falls : NeverFalls
never-falls first calls park s u R i = rises first calls park i R

-- ---- where a life stems from

module _ (s : State) (d : Day) (i : ℕ) where
  -- the life of seat i after an action: as it was, or named by the action
  abbrev pub From : Action → ℕ → Type 0
  From x life = (life ≡ (seat_at i s.seats).life) ⊎ ((x ≡ Certify i life) ⊎ (x ≡ Rejoin i life))

  pub life-from : (x : Action) → From x (seat_at i (act s d x).seats).life
  unfolding act with_standing with_life use_proposal effect
  life-from (Propose x) = inl refl
  life-from (Cancel c) = inl refl
  life-from (Presents j flag) = set_keeps (λ (y : Seat). From (Presents j flag) y.life) s.seats i j _ free_seat (λ e. inl (rw e refl)) (inl refl)
  life-from (Certify j life) = set_keeps (λ (y : Seat). From (Certify j life) y.life) s.seats i j _ free_seat (λ e. inr (inl (rw e refl)))
      (inl refl)
  life-from (Minima x) = inl refl
  life-from (Remove j) = set_keeps (λ (y : Seat). From (Remove j) y.life) s.seats i j _ free_seat (λ e. inl (rw e refl)) (inl refl)
  life-from (Rejoin j life) = set_keeps (λ (y : Seat). From (Rejoin j life) y.life) s.seats i j _ free_seat (λ e. inr (inr (rw e refl)))
      (inl refl)
  life-from (Grant x) = inl refl
  life-from (End login) = inl refl

module _ (first : State) (calls : History) (i : ℕ) where
  -- what a life stems from is also in the chain of the next state
  later-stems : {r s : State} {life : ℕ} (a : Announcement) → Step calls r a → s ≡ perform r a → Stems first calls r i life
      → Stems first calls s i life
  later-stems a x e (at_first f) = at_first f
  later-stems {r} a x e (certified q b y Q f n C) = certified q b y Q f n (next r a C x e)
  later-stems {r} a x e (rejoined q b y Q f n C) = rejoined q b y Q f n (next r a C x e)

module _ (park-first : List ℕ) (calls : History) (park : Park park-first calls) (i : ℕ) where
  abbrev first : State
  first = (read_checkpoint park-first).state

  stems : {s : State} → Reached first (Step calls) s → Stems first calls s i (seat_at i s.seats).life
  unfolding perform advance
  stems (origin e) = at_first (ap (λ (z : State). (seat_at i z.seats).life) (sym e))
  stems {s} (next r a R x e) =
      subst (λ (n : ℕ). Stems first calls s i n) (ap (λ (z : State). (seat_at i z.seats).life) (sym e))
      (at (stems R) (life-from (without_lapsed a.day r) a.day i a.action))
    where
      at : Stems first calls r i (seat_at i r.seats).life → From r a.day i a.action (seat_at i (perform r a).seats).life
          → Stems first calls s i (seat_at i (perform r a).seats).life
      at before (inl same) = later-stems first calls i a x e (subst (Stems first calls r i) (sym same) before)
      at before (inr (inl f)) = certified r a x R f (always-noticed park-first calls park r a x (rw f (λ z. omega arith))) (origin e)
      at before (inr (inr f)) = rejoined r a x R f (always-noticed park-first calls park r a x (rw f (λ z. omega arith))) (origin e)

pub lives-stem : LivesStem
lives-stem first calls park s R i = stems first calls park i R

-- ---- rows of earlier lives

-- an element that there is, set to another
pub set_there : {A : Type 0} (xs : List A) (i : ℕ) (y d : A) → get_or xs i d ≢ d → get_or (set xs i y) i d ≡ y
set_there [] i y d n = absurd (n refl)
set_there (x ∷ xs) zero y d n = refl
set_there (x ∷ xs) (suc i) y d n = set_there xs i y d n

-- a rejoin gives the seat its life
rejoin-life : (s : State) (d : Day) (i life : ℕ) → is_active (seat_at i s.seats) ≡ true → (seat_at i (act s d (Rejoin i life)).seats).life ≡ life
unfolding act with_life effect use_proposal
rejoin-life s d i life e = ap (λ (x : Seat). x.life) (set_there s.seats i _ free_seat (λ z. false≢true (rw z at e)))

pub earlier-lives-never-count : EarlierLivesNeverCount
unfolding perform advance
earlier-lives-never-count first calls park r a i life x e u R row early =
    let f = rw e at (step-found first calls park r a x) in
    let l : (seat_at i (perform r a).seats).life ≡ life = rw e (rejoin-life (without_lapsed a.day r) a.day i life f.0) in
    let b = (rises first calls park i R).life in
    rw (ne_eqb row.life (seat_at i u.seats).life (λ z. omega arith)) (and-false (eqb row.seat i))
