-- Rule 10 in words, where the lapsed proposals are dropped before: no listed proposal is a notice of the subject.
use mathlib.Core.Path.{◌≡◌, refl, sym, ap, ◌∙◌}
use mathlib.Core.Logic.{◌≢◌, ◌⊎◌, inl, inr}
use mathlib.Core.Bool.{Bool, true, false, and-eq-true_iff, false≢true}
use mathlib.Core.List.{Memᴰ}
use borrow.Author.Tests.{eqb-true, eqb-false, ne_eqb, not-true, not-false}
use Rattle.lists.specs.Fold.{first}
use Rattle.lists.proofs.Firsts.{first-listed, first_passes}
use Rattle.state.specs.declared.Day.{Day}
use Rattle.state.specs.declared.Subject.{Subject}
use Rattle.state.specs.declared.Proposal.{Proposal}
use Rattle.state.specs.declared.State.{State}
use Rattle.state.specs.Rows.{no_proposal, is_proposal}
use Rattle.state.specs.Update.{with_proposals}
use Rattle.tables.specs.Proposals.{is_mature, mature_proposal, drop_lapsed}
use Rattle.tables.specs.Claims.{IsNotice}
use Rattle.tables.proofs.Lapse.{mature-is-notice}
use Rattle.rules.specs.Rules.{lacks_notice}

module _ (s : State) (d : Day) (x : Subject) where
  -- the rule's test
  abbrev pub Lacks : Bool
  Lacks = lacks_notice (with_proposals (drop_lapsed d s.proposals) s) d x

  abbrev is_ripe : Proposal → Bool
  is_ripe = is_mature s.minima.notices x d

  -- no listed proposal is a notice
  abbrev pub NoNotice : Type 0
  NoNotice = (r : Proposal) → Memᴰ r s.proposals → ¬ IsNotice s.minima.notices x d r

  abbrev pub found : Proposal
  found = first is_ripe no_proposal (drop_lapsed d s.proposals)

  pub notice-lacks : Lacks ≡ true → (x.kind ≢ 0) × NoNotice
  unfolding mature_proposal
  notice-lacks e =
      let t = (and-eq-true_iff _ _).0 e in
      let subject = eqb-false x.kind 0 (not-true _ t.0) in (
        subject,
        λ r m n.
            let k = (mature-is-notice s.minima.notices x subject d s.proposals r).mature m n in
            let passes = first_passes is_ripe no_proposal k.0 k.1 in
            let same = eqb-true found.subject.kind x.kind ((and-eq-true_iff _ _).0 passes).0 in
            subject (sym same ∙ eqb-true found.subject.kind 0 (not-false _ (not-true _ t.1))),
      )

  -- a listed proposal that is one: the first that is mature
  pub record Noticed : Type 0 where
    pub listed : Memᴰ found s.proposals
    pub notice : IsNotice s.minima.notices x d found

  pub has-notice : x.kind ≢ 0 → Lacks ≡ false → Noticed
  unfolding mature_proposal
  has-notice k e = by (first-listed is_ripe no_proposal (drop_lapsed d s.proposals))
    where
      used : is_proposal found ≡ true
      used = not-false _ (rw (ne_eqb x.kind 0 k) at e)

      by : (found ≡ no_proposal) ⊎ (Memᴰ found (drop_lapsed d s.proposals) × (is_ripe found ≡ true)) → Noticed
      by (inl f) = absurd (false≢true (ap is_proposal (sym f) ∙ used))
      by (inr f) =
          let n = (mature-is-notice s.minima.notices x k d s.proposals found).notice f.0 f.1 in
          record { listed = n.0; notice = n.1 }

  pub lacks-notice : x.kind ≢ 0 → NoNotice → Lacks ≡ true
  lacks-notice k none = by Lacks refl
    where
      by : (b : Bool) → Lacks ≡ b → b ≡ true
      by true e = refl
      by false e = let n = has-notice k e in absurd (none found n.listed n.notice)
