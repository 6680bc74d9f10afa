-- The table of proposals once the lapsed ones are dropped.
use mathlib.Core.Path.{◌≡◌, refl, sym, ap, ◌∙◌}
use mathlib.Core.Logic.{◌≢◌, ◌⊎◌, inl, inr}
use mathlib.Core.Bool.{Bool, true, false, not, and-eq-true_iff, false≢true}
use mathlib.Core.List.{List, Memᴰ, append-nil}
use Prim.Native.Nat.{◌-◌}
use native.Mathlib.Omega.{arith}
use borrow.Author.Tests.{eqb-true, eq-eqb, ne_eqb, leb-true, le-leb, ltb-false, le-ltb, not-true}
use Rattle.lists.specs.Table.{keep, fill}
use Rattle.lists.proofs.Every.{none_of, none-to}
use Rattle.lists.proofs.Members.{to-keep, of-keep, all_in, all-members}
use Rattle.lists.proofs.Tables.{rising-of}
use Rattle.lists.proofs.TableMembers.{of-fill, to_fill, keep_all, keep-fewer, fill-behind, rising-one}
use Rattle.state.specs.declared.Day.{Day}
use Rattle.state.specs.declared.Subject.{Subject}
use Rattle.state.specs.declared.Proposal.{Proposal}
use Rattle.state.specs.Limits.{proposal_rows}
use Rattle.state.specs.Rows.{no_proposal, is_proposal}
use Rattle.tables.specs.Proposals.{is_of_cycle, has_proposal, is_lapsed, drop_lapsed}
use Rattle.tables.specs.Claims.{MatureIsNotice, OnlyLapsedGo, NoneLapsed, LapsedMakesRoom, LapsedIsGone}
use Rattle.tables.proofs.TableFacts.{same-subject}

-- A row of a subject is used.
pub subject-used : {x : Subject} (r : Proposal) → x.kind ≢ 0 → r.subject ≡ x → is_proposal r ≡ true
subject-used r k e = ap not (ne_eqb r.subject.kind 0 (λ z. k (ap (λ (y : Subject). y.kind) (sym e) ∙ z)))

-- A used row that is left where rows are dropped was there before, and passes the test of those that stay.
pub left-of : (p : Proposal → Bool) {r : Proposal} (rows : List Proposal) → is_proposal r ≡ true
    → Memᴰ r (fill proposal_rows no_proposal (keep p rows)) → Memᴰ r rows × (p r ≡ true)
left-of p {r} rows u m = by (of-fill proposal_rows no_proposal (keep p rows) m)
  where
    by : Memᴰ r (keep p rows) ⊎ (r ≡ no_proposal) → Memᴰ r rows × (p r ≡ true)
    by (inl k) = of-keep p rows k
    by (inr e) = absurd (false≢true (ap is_proposal (sym e) ∙ u))

-- a row that is not lapsed
abbrev is_current : Day → Proposal → Bool
is_current d r = not (is_lapsed d r)

-- Of the used rows those are left that have not lapsed.
pub only-lapsed-go : OnlyLapsedGo
unfolding drop_lapsed
only-lapsed-go d rows r u = record {
  was = λ m. let h = left-of (is_current d) rows u m in (h.0, not-true _ h.1);
  stays = λ m e. to_fill proposal_rows no_proposal (to-keep (is_current d) m (ap not e));
}

-- Where the lapsed rows are dropped, the mature ones of a subject are its notices.
pub mature-is-notice : MatureIsNotice
mature-is-notice notices x k d rows r = record {
  notice = λ m e.
      let t = simp and-eq-true_iff at e in
      let kind = eqb-true r.subject.kind x.kind t.0 in
      let arguments = eqb-true r.subject.arguments x.arguments t.1.0 in
      let same = same-subject _ _ x kind arguments in
      let used = subject-used r k same in
      let left = (only-lapsed-go d rows r used).was m in
      (left.0, record { same = same; days = leb-true _ _ t.1.1; valid = ltb-false _ _ (rw used at left.1) });
  mature = λ m n.
      let kind = ap (λ (y : Subject). y.kind) n.same in
      let arguments = ap (λ (y : Subject). y.arguments) n.same in
      let used = subject-used r k n.same in (
        (only-lapsed-go d rows r used).stays m (rw (used, le-ltb _ _ n.valid)),
        rw (eq-eqb _ _ kind, eq-eqb _ _ arguments) (le-leb _ _ n.days),
      );
}

-- Where none has lapsed, the table stays as it is.
pub none-lapsed : NoneLapsed
unfolding drop_lapsed fill
none-lapsed d rows long h = rw (keep_all (is_current d) rows (λ r m. ap not (all_in (none_of (is_lapsed d) rows h) m)), long) (append-nil rows)

-- Where one has lapsed, there is room.
pub lapsed-makes-room : LapsedMakesRoom
unfolding drop_lapsed
lapsed-makes-room d rows long r m e =
    let fewer = keep-fewer (is_current d) m (ap not e) in
    ap is_proposal (fill-behind proposal_rows (proposal_rows - 1) no_proposal (keep (is_current d) rows) (omega arith))

-- In a table that rises by cycle, a lapsed proposal's cycle has none afterwards.
pub lapsed-is-gone : LapsedIsGone
unfolding has_proposal
lapsed-is-gone d rows rising r m e = none-to (is_of_cycle r.cycle) (all-members (drop_lapsed d rows) other)
  where
    other : (q : Proposal) → Memᴰ q (drop_lapsed d rows) → is_of_cycle r.cycle q ≡ false
    other q k = by (is_of_cycle r.cycle q) refl
      where
        by : (b : Bool) → is_of_cycle r.cycle q ≡ b → b ≡ false
        by false f = refl
        by true f =
            let t = (and-eq-true_iff (is_proposal q) _).0 f in
            let left = (only-lapsed-go d rows q t.0).was k in
            let used = ((and-eq-true_iff (is_proposal r) _).0 e).0 in
            let one-cycle = eqb-true q.cycle.0 r.cycle.0 t.1 in
            let same = rising-one (rising-of 0 rows rising) left.0 m t.0 used (omega arith) in
            absurd (false≢true (sym left.1 ∙ ap (is_lapsed d) same ∙ e))
