-- What the rules ask for before an announcement is performed.
use mathlib.Core.Path.{◌≡◌, refl}
use mathlib.Core.Logic.{◌≢◌, ◌⊎◌, inl, inr}
use mathlib.Core.Bool.{Bool, true, false, not, and-eq-true_iff}
use Prim.Native.Nat.{ℕ, ◌-◌}
use native.Mathlib.Omega.{arith}
use lib.Dec.{eqb}
use lib.ListN.{get_or}
use borrow.Author.Tests.{eqb-true, eqb-false, leb-false, ltb-false, not-false}
use Rattle.lists.proofs.Tests.{cond_cases}
use Rattle.refusals.specs.Refusals.{refuse_if, ◌or_else◌}
use Rattle.refusals.proofs.Chains.{passes-rule, unrefused, by-rule, refused, lowest-one}
use Rattle.state.specs.declared.Day.{Day}
use Rattle.state.specs.declared.State.{State}
use Rattle.state.specs.Time.{is_before_day}
use Rattle.state.specs.Seats.{free, seat_at, is_active}
use Rattle.state.specs.Limits.{proposal_rows, login_rows}
use Rattle.state.specs.Rows.{no_proposal, is_proposal, no_login, is_login}
use Rattle.tables.specs.Proposals.{has_proposal, proposals_full}
use Rattle.tables.specs.Logins.{is_listed, lacks_row}
use Rattle.records.specs.declared.Action.{Action}
use Rattle.records.specs.declared.Action.TheVariants.{Propose, Cancel, Presents, Certify, Minima, Remove, Rejoin, Grant, End}
use Rattle.records.specs.Actions.{kind_of, level_of, subject_of}
use Rattle.rules.specs.Rules.{is_signed, lacks_notice, notice_refusal, quorum_refusal, check_refusal, action_refusal}
use Rattle.rules.proofs.Passed.{quorum-left, action-passes}
use Rattle.actions.specs.Perform.{without_lapsed}
use Rattle.actions.specs.Claims.{AlwaysSigned, Found, AlwaysFound, FullOnlyWhenFull}

-- Rule 8: a majority signed.
pub always-signed : AlwaysSigned
always-signed s a mask1 mask2 p = (action-passes (without_lapsed a.day s) a.day mask1 mask2 a.action p.action).signed

found : (s : State) (d : Day) (x : Action) → check_refusal s d x ≡ 0 → Found s d x
unfolding check_refusal
found s d (Propose x) e = unrefused _ 11 refl e
found s d (Cancel c) e = not-false _ (unrefused (not (has_proposal c s.proposals)) 13 refl e)
found s d (Presents i flag) e = eqb-true _ _ (not-false _ (passes-rule _ 9 _ refl e).0)
found s d (Certify i life) e = eqb-true _ _ (not-false _ (unrefused (not (eqb (seat_at i s.seats).standing free)) 9 refl e))
found s d (Minima x) e = quorum-left _ _ _ e
found s d (Remove i) e = not-false _ (passes-rule (not (is_active (seat_at i s.seats))) 9 _ refl e).0
found s d (Rejoin i life) e =
    let p = passes-rule (not (is_active (seat_at i s.seats))) 9 _ refl e in
    (not-false _ p.0, leb-false _ _ (unrefused _ 14 refl p.1))
found s d (Grant x) e =
    let p = passes-rule (lacks_row d x.login s.logins) 11 _ refl e in
    (p.0, ltb-false _ _ (unrefused _ 14 refl p.1))
found s d (End login) e = not-false _ (unrefused (not (is_listed login s.logins)) 13 refl e)

pub always-found : AlwaysFound
always-found s a mask1 mask2 p =
    let seen = without_lapsed a.day s in
    found seen a.day a.action (action-passes seen a.day mask1 mask2 a.action p.action).checked

-- No number of a chain is k where none of its parts is.
without : (a b k : ℕ) → a ≢ k → b ≢ k → (a or_else b) ≢ k
without a b k p q = cond_cases (λ (n : ℕ). n ≢ k) (eqb a 0) (λ e. q) (λ e. p)

rule-without : (t : Bool) (n k : ℕ) → n ≢ k → 0 ≢ k → refuse_if t n ≢ k
rule-without true n k p z = p
rule-without false n k p z = z

never : {P : Type 0} {n k : ℕ} → n ≢ k → n ≡ k → P
never p e = absurd (p e)

ruleset others = (without, rule-without, eqb-false, refl)

-- the last row of a table is used where a check gives 11
Full : State → Type 0
Full s = (is_proposal (get_or s.proposals (proposal_rows - 1) no_proposal) ≡ true) ⊎ (is_login (get_or s.logins (login_rows - 1) no_login) ≡ true)

full-check : (s : State) (d : Day) (x : Action) → check_refusal s d x ≡ 11 → Full s
unfolding check_refusal quorum_refusal Full
full-check s d (Propose x) e = inl (refused (proposals_full s.proposals) 11 11 (omega arith) e).1
full-check s d (Cancel c) e = never (search others depth 9) e
full-check s d (Presents i flag) e = never (search others depth 9) e
full-check s d (Certify i life) e = never (search others depth 9) e
full-check s d (Minima x) e = never (search others depth 9) e
full-check s d (Remove i) e = never (search others depth 9) e
full-check s d (Rejoin i life) e = never (search others depth 9) e
full-check s d (Grant x) e =
    by-rule (lacks_row d x.login s.logins) 11 _ 11 refl (λ _ a. let t = simp and-eq-true_iff at a in inr t.0.0)
    (λ _ f. let r = refused (is_before_day x.end d) 14 11 (omega arith) f in absurd (omega arith)) e
full-check s d (End login) e = never (search others depth 9) e

pub full-only-when-full : FullOnlyWhenFull
unfolding action_refusal notice_refusal Full
full-only-when-full s d mask1 mask2 x =
    by-rule (not (is_signed s (level_of (kind_of x)) mask1 mask2)) 8 _ 11 refl (λ e _. absurd (omega arith))
    (λ _ e. by (lowest-one _ (check_refusal s d x) 11 e))
  where
    by : (refuse_if (lacks_notice s d (subject_of x)) 10 ≡ 11) ⊎ (check_refusal s d x ≡ 11) → Full s
    by (inl e) = never (search others depth 9) e
    by (inr e) = full-check s d x e
