-- An action that no rule refuses leaves a sound state.
use mathlib.Core.Path.{◌≡◌, refl}
use mathlib.Core.Logic.{◌≢◌}
use mathlib.Core.Bool.{true, false, cond, not}
use Prim.Native.Nat.{ℕ, ◌+◌, ◌-◌, ◌^◌, ◌≤◌, ◌<◌}
use native.Mathlib.Omega.{arith}
use lib.Dec.{eqb}
use borrow.Author.Tests.{eqb-true, ne_eqb, le-leb, leb-false, not-false}
use Rattle.lists.proofs.Every.{all_map}
use Rattle.lists.proofs.Tables.{table-add, table-drop}
use Rattle.state.specs.declared.Day.{Day}
use Rattle.state.specs.declared.Cycle.{Cycle}
use Rattle.state.specs.declared.Proposal.{Proposal}
use Rattle.state.specs.declared.State.{State}
use Rattle.state.specs.Limits.{seat_count}
use Rattle.state.specs.Time.{cycle}
use Rattle.state.specs.Seats.{free, certified, present, retired, seat_at, is_present, is_active, present_seats, quorum, quorum_of}
use Rattle.tables.specs.Proposals.{add_proposal}
use Rattle.state.specs.Rows.{no_login}
use Rattle.tables.specs.Logins.{end_login}
use Rattle.state.proofs.SeatLaws.{held-well-formed, well-formed-held, active-not-free}
use Rattle.state.proofs.ProposalRows.{IsProposed, proposed-used, proposed-well-formed, well-formed-proposed}
use Rattle.tables.proofs.LoginTable.{table-grant}
use Rattle.records.specs.declared.Action.{Action}
use Rattle.records.specs.declared.Action.TheVariants.{Propose, Cancel, Presents, Certify, Minima, Remove, Rejoin, Grant, End}
use Rattle.records.specs.Claims.{ActionInRange}
use Rattle.rules.specs.Rules.{check_refusal, present_without}
use Rattle.rules.proofs.Passed.{quorum-left}
use Rattle.actions.specs.Perform.{with_standing, with_life, effect, use_proposal, act}
use Rattle.refusals.proofs.Chains.{unrefused, passes-rule}
use Rattle.actions.proofs.Sound.{GoodSeat, no-login-good, Sound, EnoughWith, with-proposals, with-logins, with-dropped, with-seat, with-minima, seat-good}

-- A seat of these ranges is not free, fits and is well formed.
good-seat : (standing life : ℕ) → 1 ≤ standing → standing ≤ 3 → 1 ≤ life → life < 2 ^ 32 → GoodSeat (record { standing = standing; life = life })
good-seat standing life l u k w = ((omega arith, w), held-well-formed _ (record { low = l; high = u; life = k }))

module _ {c : Cycle} {d : Day} {s : State} (h : Sound c d s) where
  -- A seat that is not free takes another standing.
  restanded : (i k : ℕ) → i < seat_count → 1 ≤ k → k ≤ 3 → (seat_at i s.seats).standing ≢ free → EnoughWith s i k → Sound c d (with_standing i k s)
  unfolding with_standing
  restanded i k l low high n q =
      let g = seat-good h i in
      with-seat h i k _ l (good-seat k _ low high (well-formed-held _ g.1 n).life g.0.1) q

  -- The number of present seats does not change.
  same-present : (p x : ℕ) → p + x ≡ present_seats s.seats + x → quorum p s.minima.margin s.minima.least ≤ p
  unfolding quorum_of
  same-present p x e =
      let q : p ≡ present_seats s.seats = omega arith in
      rw q h.enough

-- Before it is performed, a state in its own cycle and day, and also in those that it will have.
module _ (s : State) (d : Day) (before : Sound s.cycle s.day s) (h : Sound (cycle (s.cycle.0 + 1)) d s) where
  pub act-kept : (x : Action) → s.cycle.0 < 2 ^ 32 → d.0 < 2 ^ 32 → ActionInRange x → check_refusal s d x ≡ 0
      → Sound (cycle (s.cycle.0 + 1)) d (act s d x)
  unfolding act effect check_refusal use_proposal with_life add_proposal end_login present_without
  act-kept (Propose x) wc wd r e =
      let new : Proposal = record { cycle = s.cycle; day = d; subject = x } in
      let o : IsProposed (cycle (s.cycle.0 + 1)) d new = record { cycle = omega arith; day = omega arith; subject = r.2 } in
      with-proposals h _
      (table-add h.proposals new (proposed-used o) (omega arith) (((wc, wd), (r.0, r.1)), proposed-well-formed _ _ new o)
      (all_map (λ x g u. (let q = (well-formed-proposed s.cycle s.day x g.1 u).cycle in omega arith)) before.proposals.each))
  act-kept (Cancel c) wc wd r e = with-dropped h c
  act-kept (Presents i true) wc wd r e =
      let r9 = passes-rule (not (eqb (seat_at i s.seats).standing certified)) 9 _ refl e in
      let st = eqb-true (seat_at i s.seats).standing certified (not-false _ r9.0) in
      restanded h i present r (omega arith) (omega arith) (λ z. omega arith)
      (λ p q. let t = rw st at q in let k : p ≡ present_seats s.seats + 1 = omega arith in rw k (quorum-left _ _ _ r9.1))
  act-kept (Presents i false) wc wd r e =
      let r9 = passes-rule (not (eqb (seat_at i s.seats).standing present)) 9 _ refl e in
      let st = eqb-true (seat_at i s.seats).standing present (not-false _ r9.0) in
      restanded h i certified r (omega arith) (omega arith) (λ z. omega arith)
      (λ p q. let t = rw st at q in let k : p ≡ present_seats s.seats - 1 = omega arith in rw k (quorum-left _ _ _ r9.1))
  act-kept (Certify i life) wc wd r e =
      let st = eqb-true (seat_at i s.seats).standing free (not-false _ (unrefused _ 9 refl e)) in
      with-dropped
      (with-seat h i certified life r.0 (good-seat certified life (omega arith) (omega arith) r.1 r.2)
      (λ p q. same-present h p 0 (rw st at q)))
      _
  act-kept (Minima x) wc wd r e = with-dropped (with-minima h x r (quorum-left _ _ _ e)) _
  act-kept (Remove i) wc wd r e =
      let x = seat_at i s.seats in
      let r9 = passes-rule (not (is_active x)) 9 _ refl e in
      with-dropped
      (restanded h i retired r (omega arith) (omega arith) (active-not-free x (not-false _ r9.0))
      (λ p q. let k : p ≡ present_seats s.seats - cond (is_present x) 1 0 = omega arith in rw k (quorum-left _ _ _ r9.1)))
      _
  act-kept (Rejoin i life) wc wd r e =
      let x = seat_at i s.seats in
      let r9 = passes-rule (not (is_active x)) 9 _ refl e in
      let l = leb-false life x.life (unrefused _ 14 refl r9.1) in
      let k = well-formed-held x (seat-good h i).1 (active-not-free x (not-false _ r9.0)) in
      with-dropped
      (with-seat h i x.standing life r.0 (good-seat x.standing life k.low k.high (omega arith) r.1) (λ p q. same-present h p _ q))
      _
  act-kept (Grant x) wc wd r e =
      let u = ne_eqb x.login 0 (let l = r.0 in omega arith) in
      with-logins h _ (table-grant x h.logins (rw u) r.0 ((r.1, (r.2, r.4)), rw (u, le-leb 1 x.rights r.3)) no-login-good)
  act-kept (End login) wc wd r e = with-logins h _ (table-drop h.logins _ no_login refl no-login-good)
