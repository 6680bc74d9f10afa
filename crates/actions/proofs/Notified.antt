-- The proposals that a performed announcement leaves, and the one that it uses up.
use mathlib.Core.Path.{◌≡◌, refl, sym, ap, ◌∙◌, subst}
use mathlib.Core.Logic.{◌≢◌, ◌⊎◌, inl, inr}
use mathlib.Core.Bool.{Bool, true, false, not, and-eq-true_iff, false≢true}
use mathlib.Core.List.{List, Memᴰ}
use Prim.Native.Nat.{◌-◌, ◌≤◌}
use native.Mathlib.Omega.{arith}
use borrow.Author.Tests.{eqb-true, eq-eqb, ltb-false, not-true}
use Rattle.lists.proofs.Members.{to-keep}
use Rattle.lists.proofs.TableMembers.{of-replace, to_fill, rising-one, first-lowest}
use Rattle.refusals.proofs.Chains.{unrefused}
use Rattle.state.specs.declared.Cycle.{Cycle}
use Rattle.state.specs.declared.Day.{Day}
use Rattle.state.specs.declared.Subject.{Subject}
use Rattle.state.specs.declared.Proposal.{Proposal}
use Rattle.state.specs.declared.State.{State}
use Rattle.state.specs.Limits.{proposal_rows}
use Rattle.state.specs.Rows.{no_proposal, is_proposal}
use Rattle.state.specs.WellFormed.{cycle_of}
use Rattle.tables.specs.Proposals.{is_of_cycle, add_proposal, drop_proposal, valid_days, is_lapsed, drop_lapsed, is_mature, mature_proposal, notice_in}
use Rattle.tables.specs.Claims.{IsNotice}
use Rattle.tables.proofs.Lapse.{subject-used, left-of, only-lapsed-go, mature-is-notice}
use Rattle.records.specs.declared.Announcement.{Announcement}
use Rattle.records.specs.declared.Action.{Action}
use Rattle.records.specs.declared.Action.TheVariants.{Propose, Cancel, Presents, Certify, Minima, Remove, Rejoin, Grant, End}
use Rattle.records.specs.Actions.{subject_of}
use Rattle.rules.specs.Rules.{lacks_notice, notice_refusal}
use Rattle.rules.proofs.Passed.{action-passes}
use Rattle.rules.proofs.Notices.{found, Noticed, has-notice}
use Rattle.actions.specs.Perform.{with_standing, with_life, effect, use_proposal, act, advance, without_lapsed, perform}
use Rattle.actions.specs.Claims.{WellFormed, AlwaysNotified, NoneOlder}
use Rattle.actions.proofs.Sound.{sound-of, without-lapsed}

-- A used row that is left after a drop was there before, and is of another cycle.
of-drop : (c : Cycle) {r : Proposal} (rows : List Proposal) → is_proposal r ≡ true → Memᴰ r (drop_proposal c rows)
    → Memᴰ r rows × (is_of_cycle c r ≡ false)
unfolding drop_proposal
of-drop c rows u m = let h = left-of (λ x. not (is_of_cycle c x)) rows u m in (h.0, not-true _ h.1)

-- No used row of that cycle is left.
pub drop-gone : (c : Cycle) {r : Proposal} (rows : List Proposal) → is_proposal r ≡ true → r.cycle ≡ c → ¬ Memᴰ r (drop_proposal c rows)
drop-gone c {r} rows u e m =
    false≢true (sym (of-drop c rows u m).1 ∙ rw (u, eq-eqb r.cycle.0 c.0 (ap (λ (z : Cycle). z.0) e)))

-- the row of a propose
abbrev pub row_of : State → Day → Subject → Proposal
row_of s d x = record { cycle = s.cycle; day = d; subject = x }

-- A used row after an action was there before, or is the row of the propose.
pub before : (s : State) (d : Day) (r : Proposal) → is_proposal r ≡ true → (x : Action) → Memᴰ r (act s d x).proposals
    → Memᴰ r s.proposals ⊎ ((x ≡ Propose r.subject) × (r ≡ row_of s d r.subject))
unfolding act effect with_standing with_life use_proposal add_proposal
before s d r u (Propose x) m = at (of-replace (λ y. not (is_proposal y)) (row_of s d x) s.proposals m)
  where
    at : (r ≡ row_of s d x) ⊎ Memᴰ r s.proposals → Memᴰ r s.proposals ⊎ ((Propose x ≡ Propose r.subject) × (r ≡ row_of s d
        r.subject))
    at (inl e) = inr (rw e (refl, refl))
    at (inr k) = inl k
before s d r u (Cancel c) m = inl (of-drop c s.proposals u m).0
before s d r u (Presents i flag) m = inl m
before s d r u (Certify i life) m = inl (of-drop _ s.proposals u m).0
before s d r u (Minima x) m = inl (of-drop _ s.proposals u m).0
before s d r u (Remove i) m = inl (of-drop _ s.proposals u m).0
before s d r u (Rejoin i life) m = inl (of-drop _ s.proposals u m).0
before s d r u (Grant x) m = inl m
before s d r u (End login) m = inl m

-- No proposal that is left is older than 60 days.
pub none-older : NoneOlder
unfolding perform advance
none-older s a r m u = by (before (without_lapsed a.day s) a.day r u a.action m)
  where
    by : Memᴰ r (drop_lapsed a.day s.proposals) ⊎ ((a.action ≡ Propose r.subject) × (r ≡ row_of s a.day r.subject))
        → a.day.0 - r.day.0 ≤ valid_days
    by (inl k) = ltb-false _ _ (rw u at ((only-lapsed-go a.day s.proposals r u).was k).1)
    by (inr e) = let same = ap (λ (x : Proposal). x.day.0) e.1 in omega arith

-- The table after an action that has a subject: the first mature proposal is dropped.
used-table : (s : State) (d : Day) (x : Action) → (subject_of x).kind ≢ 0
    → (act s d x).proposals ≡ drop_proposal (notice_in s (subject_of x) d).cycle s.proposals
unfolding act effect with_standing with_life use_proposal
used-table s d (Propose x) k = absurd (k refl)
used-table s d (Cancel c) k = absurd (k refl)
used-table s d (Presents i flag) k = absurd (k refl)
used-table s d (Certify i life) k = refl
used-table s d (Minima x) k = refl
used-table s d (Remove i) k = refl
used-table s d (Rejoin i life) k = refl
used-table s d (Grant x) k = absurd (k refl)
used-table s d (End login) k = absurd (k refl)

module _ (s : State) (a : Announcement) (w : WellFormed s) (k : (subject_of a.action).kind ≢ 0)
    (n : Noticed s a.day (subject_of a.action)) where
  abbrev left : List Proposal
  left = drop_lapsed a.day s.proposals

  abbrev used : Proposal
  used = found s a.day (subject_of a.action)

  is-used : is_proposal used ≡ true
  is-used = subject-used used k n.notice.same

  after : (perform s a).proposals ≡ drop_proposal used.cycle left
  unfolding perform advance mature_proposal
  after = used-table (without_lapsed a.day s) a.day a.action k

  gone : ¬ Memᴰ used (perform s a).proposals
  gone m = drop-gone used.cycle left is-used refl (subst (Memᴰ used) after m)

  others : (r : Proposal) → Memᴰ r s.proposals → is_proposal r ≡ true → r ≢ used → is_lapsed a.day r ≡ false
      → Memᴰ r (perform s a).proposals
  unfolding drop_proposal
  others r m u d e = subst (Memᴰ r) (sym after) (to_fill proposal_rows no_proposal (to-keep (λ x. not (is_of_cycle used.cycle x))
      ((only-lapsed-go a.day s.proposals r u).stays m e) (ap not (by (is_of_cycle used.cycle r) refl))))
    where
      by : (b : Bool) → is_of_cycle used.cycle r ≡ b → b ≡ false
      by false f = refl
      by true f =
          let same = eqb-true r.cycle.0 used.cycle.0 ((and-eq-true_iff (is_proposal r) _).0 f).1 in
          absurd (d (rising-one (sound-of s w).proposals.rising m n.listed u is-used (omega arith)))

  lowest : (r : Proposal) → Memᴰ r s.proposals → IsNotice s.minima.notices (subject_of a.action) a.day r → cycle_of used ≤ cycle_of r
  lowest r m h =
      let t = (mature-is-notice s.minima.notices (subject_of a.action) k a.day s.proposals r).mature m h in
      first-lowest (is_mature s.minima.notices (subject_of a.action) a.day) no_proposal (without-lapsed (sound-of s w) a.day).proposals.rising t.0
      (subject-used r k h.same) t.1

-- Rule 10: an action that has a subject uses up the notice of lowest cycle, and no other.
pub always-notified : AlwaysNotified
unfolding notice_refusal
always-notified s a mask1 mask2 w p k =
    let x = subject_of a.action in
    let passed = (action-passes (without_lapsed a.day s) a.day mask1 mask2 a.action p.action).notified in
    let n = has-notice s a.day x k (unrefused (lacks_notice (without_lapsed a.day s) a.day x) 10 refl passed) in
    record {
      proposal = used s a w k n;
      listed = n.listed;
      notice = n.notice;
      lowest = lowest s a w k n;
      gone = gone s a w k n;
      others = others s a w k n;
    }
