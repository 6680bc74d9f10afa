-- Where the notice of an action that has a subject comes from, that it is used once, and that a cancelled one is not used.
use mathlib.Core.Path.{◌≡◌, sym, ap, ◌∙◌, subst}
use mathlib.Core.Logic.{◌⊎◌, inl, inr}
use mathlib.Core.Bool.{true, and-eq-true_iff}
use mathlib.Core.List.{List, Memᴰ}
use Prim.Native.Nat.{ℕ, suc, ◌≤◌, ◌<◌}
use native.Mathlib.Omega.{arith}
use borrow.Author.Tests.{eqb-true}
use Rattle.lists.proofs.Every.{any_of}
use Rattle.lists.proofs.Members.{all_in}
use Rattle.state.specs.declared.Day.{Day}
use Rattle.state.specs.declared.Cycle.{Cycle}
use Rattle.state.specs.declared.Proposal.{Proposal}
use Rattle.state.specs.declared.State.{State}
use Rattle.state.specs.Time.{days_since}
use Rattle.state.specs.Rows.{is_proposal}
use Rattle.state.proofs.MinimaRanges.{notice-low}
use Rattle.state.proofs.ProposalRows.{well-formed-proposed}
use Rattle.tables.specs.Proposals.{is_of_cycle, has_proposal, drop_lapsed}
use Rattle.tables.specs.Claims.{IsNotice}
use Rattle.tables.proofs.Lapse.{subject-used, only-lapsed-go}
use Rattle.records.specs.declared.Announcement.{Announcement}
use Rattle.records.specs.declared.Action.TheVariants.{Propose, Cancel}
use Rattle.checkpoint.specs.Checkpoint.{read_checkpoint}
use Rattle.actions.specs.Perform.{effect, use_proposal, act, advance, without_lapsed, perform}
use Rattle.actions.specs.Claims.{WellFormed, Signed}
use Rattle.records.specs.Actions.{subject_of}
use Rattle.actions.proofs.Sound.{sound-of, well-formed-in-force}
use Rattle.actions.proofs.Notified.{drop-gone, row_of, before}
use Rattle.agreement.specs.History.{History}
use Rattle.agreement.specs.Claims.{Park}
use Rattle.agreement.specs.Chain.{Step, Reached, origin, next}
use Rattle.agreement.proofs.Demand.{advances}
use Rattle.assurance.specs.Notice.{Listed, Proposed, at_first, announced, AlwaysNoticed, CancelledNeverListed}
use Rattle.assurance.proofs.Facts.{step-well-formed, step-signed, step-notified, step-found, step-reached}

-- A proposal that a well-formed state lists is of an earlier cycle.
earlier-cycle : (s : State) (r : Proposal) → WellFormed s → is_proposal r ≡ true → Listed r s → r.cycle.0 < s.cycle.0
earlier-cycle s r w used listed = (well-formed-proposed s.cycle s.day r (all_in (sound-of s w).proposals.each listed).1 used).cycle

-- ---- a step

-- A used row after a step was there before, or is the row of the propose.
step-before : (s : State) (a : Announcement) (r : Proposal) → is_proposal r ≡ true → Listed r (perform s a)
    → Listed r s ⊎ ((a.action ≡ Propose r.subject) × (r ≡ row_of s a.day r.subject))
unfolding perform advance
step-before s a r u m = at (before (without_lapsed a.day s) a.day r u a.action m)
  where
    at : Memᴰ r (drop_lapsed a.day s.proposals) ⊎ ((a.action ≡ Propose r.subject) × (r ≡ row_of s a.day r.subject))
        → Listed r s ⊎ ((a.action ≡ Propose r.subject) × (r ≡ row_of s a.day r.subject))
    at (inl k) = inl ((only-lapsed-go a.day s.proposals r u).was k).0
    at (inr e) = inr e

-- ---- the chain

module _ (first : List ℕ) (calls : History) (park : Park first calls) (r : Proposal) (used : is_proposal r ≡ true) where
  abbrev From : State → Type 0
  From u = Proposed (read_checkpoint first).state calls u r

  later : {q u : State} (a : Announcement) → Step calls q a → Listed r q → u ≡ perform q a → From q → From u
  later {q} a x l e (at_first f S) = at_first f (next q a S (x, l) e)
  later {q} a x l e (announced s b y R f c d m S) = announced s b y R f c d m (next q a S (x, l) e)

  stems : {u : State} → Reached (read_checkpoint first).state (Step calls) u → Listed r u → From u
  stems {u} (origin e) m = at_first (subst (Listed r) e m) (origin e)
  stems {u} (next q a R x e) m = at (stems R) (step-before q a r used (subst (Listed r) e m))
    where
      at : (Listed r q → From q) → Listed r q ⊎ ((a.action ≡ Propose r.subject) × (r ≡ row_of q a.day r.subject)) → From u
      at ih (inl l) = later a x l e (ih l)
      at ih (inr p) =
          announced q a x R p.0 (ap (λ (z : Proposal). z.cycle) p.1) (ap (λ (z : Proposal). z.day) p.1)
          (subst (Signed q _ _) p.0 (step-signed first calls park q a x)) (origin e)

-- A row of an earlier cycle that a state does not list is in no later state of the chain.
module _ (first : List ℕ) (calls : History) (park : Park first calls) (r : Proposal) (used : is_proposal r ≡ true) where
  pub record Over (v : State) : Type 0 where
    pub passed : r.cycle.0 < v.cycle.0
    pub gone : ¬ Listed r v

  stays-over : {u v : State} → Over u → Reached u (Step calls) v → Over v
  stays-over O (origin e) = subst Over (sym e) O
  stays-over {v = v} O (next q a R x e) = at (stays-over O R)
    where
      at : Over q → Over v
      at o =
          let c : v.cycle.0 ≡ suc q.cycle.0 = ap (λ (z : State). z.cycle.0) e ∙ (advances first calls park q a x).next in
          let p = o.passed in
          record { passed = omega arith; gone = λ m. again (step-before q a r used (subst (Listed r) e m)) }
        where
          again : ¬ (Listed r q ⊎ ((a.action ≡ Propose r.subject) × (r ≡ row_of q a.day r.subject)))
          again (inl m) = o.gone m
          again (inr f) = let p = o.passed in let same = ap (λ (z : Proposal). z.cycle.0) f.1 in absurd (omega arith)

-- ---- an action that has a subject

-- A notice of a well-formed state is a day old.
at-least-a-day : (u : State) (r : Proposal) (b : Announcement) → WellFormed u → IsNotice u.minima.notices (subject_of b.action) b.day r
    → 1 ≤ days_since b.day r.day
at-least-a-day u r b w n =
    let low = notice-low u.minima (subject_of b.action).kind (well-formed-in-force u w) in
    omega (arith, n.days)

pub always-noticed : AlwaysNoticed
always-noticed first calls park u b x z =
    let n = step-notified first calls park u b x z in
    let r = n.proposal in
    let used = subject-used r z n.notice.same in
    let earlier = earlier-cycle u r (step-well-formed first calls park u b x) used n.listed in
    let c = (advances first calls park u b x).next in
    record {
      row = r;
      listed = n.listed;
      notice = n.notice;
      day-before = at-least-a-day u r b (step-well-formed first calls park u b x) n.notice;
      proposed = stems first calls park r used (step-reached first calls park u b x) n.listed;
      signed = step-signed first calls park u b x;
      once = λ v R. (stays-over first calls park r used (record { passed = omega arith; gone = n.gone }) R).gone;
    }

-- ---- a cancel

-- After a cancel no used row of that cycle is listed.
cancel-drops : (u : State) (b : Announcement) (c : Cycle) (r : Proposal) → b.action ≡ Cancel c → is_proposal r ≡ true → r.cycle ≡ c
    → ¬ Listed r (perform u b)
unfolding perform advance act effect use_proposal
cancel-drops u b c r e used same m = drop-gone c (drop_lapsed b.day u.proposals) used same (rw e at m)

-- A cancel found a proposal of its cycle, which lies before that of its state.
cancel-found : (s : State) (d : Day) (c : Cycle) → WellFormed s → has_proposal c (drop_lapsed d s.proposals) ≡ true → c.0 < s.cycle.0
unfolding has_proposal
cancel-found s d c w found =
    let some = any_of (is_of_cycle c) (drop_lapsed d s.proposals) found in
    let q = some.0 in
    let t = (and-eq-true_iff (is_proposal q) _).0 some.2 in
    let earlier = earlier-cycle s q w t.0 ((only-lapsed-go d s.proposals q t.0).was some.1).0 in
    let same = eqb-true q.cycle.0 c.0 t.1 in
    omega arith

pub cancelled-never-listed : CancelledNeverListed
cancelled-never-listed first calls park u b x c e v R r used same =
    let found = rw e at (step-found first calls park u b x) in
    let earlier = cancel-found u b.day c (step-well-formed first calls park u b x) found in
    let n = (advances first calls park u b x).next in
    let at = ap (λ (z : Cycle). z.0) same in
    (stays-over first calls park r used (record { passed = omega arith; gone = cancel-drops u b c r e used same }) R).gone
