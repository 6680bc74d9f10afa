-- Which rows of proposals are well formed.
use mathlib.Core.Path.{◌≡◌, refl}
use mathlib.Core.Logic.{◌≢◌}
use mathlib.Core.Bool.{Bool, true, false, not, ◌&&◌, and-eq-true_iff, false≢true}
use Prim.Native.Nat.{◌≤◌, ◌<◌}
use native.Mathlib.Omega.{arith}
use borrow.Author.Tests.{ne_eqb, ltb-true, ltb-false, lt-ltb, le-ltb, not-true}
use Rattle.state.specs.declared.Day.{Day}
use Rattle.state.specs.declared.Cycle.{Cycle}
use Rattle.state.specs.declared.Subject.{Subject}
use Rattle.state.specs.declared.Proposal.{Proposal}
use Rattle.state.specs.Time.{is_before_day, is_before_cycle}
use Rattle.state.specs.Subjects.{is_subject}
use Rattle.state.specs.Rows.{is_proposal}
use Rattle.state.specs.WellFormed.{is_well_formed_proposal}

-- No subject has the kind of an unused row.
subject-kind : (x : Subject) → is_subject x ≡ true → x.kind ≢ 0
unfolding is_subject
subject-kind x e z = false≢true (rw z at e)

-- a used row, in a state of cycle c and agreed day d
pub record IsProposed (c : Cycle) (d : Day) (r : Proposal) : Type 0 where
  pub cycle : r.cycle.0 < c.0
  pub day : r.day.0 ≤ d.0
  pub subject : is_subject r.subject ≡ true

pub proposed-used : {c : Cycle} {d : Day} {r : Proposal} → IsProposed c d r → is_proposal r ≡ true
proposed-used {r} h = rw (ne_eqb r.subject.kind 0 (subject-kind r.subject h.subject))

-- A used row is well formed exactly so.
pub proposed-well-formed : (c : Cycle) (d : Day) (r : Proposal) → IsProposed c d r → is_well_formed_proposal c d r ≡ true
proposed-well-formed c d r h = rw (proposed-used h, lt-ltb r.cycle.0 c.0 h.cycle, le-ltb d.0 r.day.0 h.day) h.subject

pub well-formed-proposed : (c : Cycle) (d : Day) (r : Proposal) → is_well_formed_proposal c d r ≡ true → is_proposal r ≡ true → IsProposed c d r
well-formed-proposed c d r e u =
    let h = (and-eq-true_iff (is_before_cycle r.cycle c) (not (is_before_day d r.day) && is_subject r.subject)).0 (rw u at e) in
    let k = (and-eq-true_iff (not (is_before_day d r.day)) (is_subject r.subject)).0 h.1 in
    record { cycle = ltb-true _ _ h.0; day = ltb-false _ _ (not-true _ k.0); subject = k.1 }

-- A well-formed row is well formed in a later state.
pub proposal-ages : {c c' : Cycle} {d d' : Day} (r : Proposal) → c.0 ≤ c'.0 → d.0 ≤ d'.0 → is_well_formed_proposal c d r ≡ true
    → is_well_formed_proposal c' d' r ≡ true
proposal-ages {c} {c'} {d} {d'} r lc ld e = at (is_proposal r) refl
  where
    at : (b : Bool) → is_proposal r ≡ b → is_well_formed_proposal c' d' r ≡ true
    at true u = let h = well-formed-proposed c d r e u in proposed-well-formed c' d' r
        (record { cycle = omega arith; day = omega arith; subject = h.subject })
    at false u = rw u (rw u at e)
