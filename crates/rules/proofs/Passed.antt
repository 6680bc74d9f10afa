-- What it tells that no rule applies, and the greatest number.
use mathlib.Core.Path.{◌≡◌, refl}
use mathlib.Core.Logic.{◌≢◌}
use mathlib.Core.Bool.{true}
use Prim.Native.Nat.{ℕ, ◌≤◌}
use native.Mathlib.Omega.{arith}
use borrow.Author.Tests.{eqb-false, ltb-false, not-false}
use Rattle.refusals.proofs.Chains.{passes, passes-rule, unrefused, lowest-none, bounds}
use Rattle.state.specs.declared.Day.{Day}
use Rattle.state.specs.declared.Cycle.{Cycle}
use Rattle.state.specs.declared.State.{State}
use Rattle.state.specs.Time.{is_before_cycle, is_same_cycle, last_cycle}
use Rattle.state.specs.Seats.{quorum}
use Rattle.records.specs.declared.Announcement.{Announcement}
use Rattle.records.specs.declared.Action.{Action}
use Rattle.records.specs.declared.Action.TheVariants.{Propose, Cancel, Presents, Certify, Minima, Remove, Rejoin, Grant, End}
use Rattle.records.specs.Actions.{kind_of, level_of, subject_of}
use Rattle.rules.specs.Rules.{is_signed, time_refusal, trustee_refusal, notice_refusal, quorum_refusal, check_refusal, action_refusal}

-- Rule 12: the quorum is at most p.
pub quorum-left : (p m k : ℕ) → quorum_refusal p m k ≡ 0 → quorum p m k ≤ p
unfolding quorum_refusal
quorum-left p m k h = ltb-false p (quorum p m k) (unrefused _ 12 refl h)

-- Rules 4 to 7: it is the state's cycle, and not the last one, and no earlier day.
pub record InTime (s : State) (a : Announcement) : Type 0 where
  pub cycle : a.cycle.0 ≡ s.cycle.0
  pub not_last : s.cycle.0 ≢ last_cycle.0
  pub day : s.day.0 ≤ a.day.0

pub in-time : (s : State) (a : Announcement) → time_refusal s.cycle s.day a ≡ 0 → InTime s a
unfolding time_refusal
in-time s a h =
    let r4 = passes-rule (is_before_cycle a.cycle s.cycle) 4 _ refl h in
    let r5 = passes-rule (is_before_cycle s.cycle a.cycle) 5 _ refl r4.1 in
    let r6 = passes-rule (is_same_cycle s.cycle last_cycle) 6 _ refl r5.1 in
    let k4 = ltb-false a.cycle.0 s.cycle.0 r4.0 in
    let k5 = ltb-false s.cycle.0 a.cycle.0 r5.0 in
    record { cycle = omega arith; not_last = eqb-false _ _ r6.0; day = ltb-false _ _ (unrefused _ 7 refl r6.1) }

pub time-within : (c : Cycle) (d : Day) (a : Announcement) → time_refusal c d a ≤ 7
unfolding time_refusal
time-within c d a = search bounds depth 9

-- Rules 8 to 14: the action is signed, has its notice, and its check passes.
pub record Passes (s : State) (d : Day) (mask1 mask2 : ℕ) (x : Action) : Type 0 where
  pub signed : is_signed s (level_of (kind_of x)) mask1 mask2 ≡ true
  pub notified : notice_refusal s d (subject_of x) ≡ 0
  pub checked : check_refusal s d x ≡ 0

pub action-passes : (s : State) (d : Day) (mask1 mask2 : ℕ) (x : Action) → action_refusal s d mask1 mask2 x ≡ 0 → Passes s d mask1 mask2 x
unfolding action_refusal
action-passes s d mask1 mask2 x e =
    let p = passes (trustee_refusal (is_signed s (level_of (kind_of x)) mask1 mask2)) _ e in
    let q = lowest-none (notice_refusal s d (subject_of x)) (check_refusal s d x) p.1 in
    record { signed = not-false _ (unrefused _ 8 refl p.0); notified = q.0; checked = q.1 }

check-within : (s : State) (d : Day) (x : Action) → check_refusal s d x ≤ 14
unfolding check_refusal quorum_refusal
check-within s d (Propose x) = search bounds depth 9
check-within s d (Cancel c) = search bounds depth 9
check-within s d (Presents i flag) = search bounds depth 9
check-within s d (Certify i life) = search bounds depth 9
check-within s d (Minima x) = search bounds depth 9
check-within s d (Remove i) = search bounds depth 9
check-within s d (Rejoin i life) = search bounds depth 9
check-within s d (Grant x) = search bounds depth 9
check-within s d (End login) = search bounds depth 9

pub action-within : (s : State) (d : Day) (mask1 mask2 : ℕ) (x : Action) → action_refusal s d mask1 mask2 x ≤ 14
unfolding action_refusal notice_refusal
action-within s d mask1 mask2 x = search (bounds, check-within s d x) depth 9
