-- What a performed announcement leaves of the listed logins.
use mathlib.Core.Path.{◌≡◌, refl, sym, ap, ◌∙◌}
use mathlib.Core.Logic.{◌≢◌}
use mathlib.Core.Bool.{Bool, true, false, not, and-eq-true_iff, false≢true}
use mathlib.Core.List.{Memᴰ}
use Prim.Native.Nat.{ℕ}
use native.Mathlib.Decide.{ℕ_discrete}
use native.Mathlib.Omega.{arith}
use borrow.Author.Tests.{ne_eqb, ltb-true, not-false}
use Rattle.lists.proofs.Members.{to-keep}
use Rattle.lists.proofs.TableMembers.{to_fill, rising-one}
use Rattle.state.specs.declared.Login.{Login}
use Rattle.state.specs.declared.State.{State}
use Rattle.state.specs.Limits.{login_rows}
use Rattle.state.specs.Rows.{no_login, is_login, is_ended}
use Rattle.tables.specs.Logins.{logins_full, end_login, add_login, needs_row, earliest_row, make_room, grant_login}
use Rattle.tables.proofs.Earliest.{earliest-is-first}
use Rattle.tables.proofs.LeftRows.{grant-has, grant-stays, grant-drops, grant-fills, evicted-used}
use Rattle.records.specs.declared.Announcement.{Announcement}
use Rattle.records.specs.declared.Action.{Action}
use Rattle.records.specs.declared.Action.TheVariants.{Propose, Cancel, Presents, Certify, Minima, Remove, Rejoin, Grant, End}
use Rattle.records.specs.Claims.{AnnouncementInRange, ActionInRange}
use Rattle.rules.specs.Rules.{check_refusal}
use Rattle.actions.specs.Perform.{with_standing, with_life, effect, use_proposal, act, advance, perform, without_lapsed}
use Rattle.actions.specs.Claims.{WellFormed, Admitted, Found}
use Rattle.actions.specs.Evictions.{AsBefore, GrantsAsBefore, OneEvicted, Evicts, RowAfter, stays, ended, replaced, evicted, RowsStay, NeedEvicts}
use Rattle.actions.proofs.Admits.{always-found}
use Rattle.actions.proofs.Sound.{LoginTable, sound-of, login-order, no-login-good}
use Rattle.actions.proofs.Performed.{keeps-well-formed}

-- Where a grant was not given 11, it is given the same number, and leaves the same list.
pub grants-as-before : GrantsAsBefore
unfolding check_refusal perform advance act effect use_proposal grant_login make_room add_login
grants-as-before s a x grants n = at (needs_row x.login s.logins) refl
  where
    at : (b : Bool) → needs_row x.login s.logins ≡ b → AsBefore s a x
    at true e = absurd (n (rw e))
    at false e = record { number = rw (grants, e); list = rw (grants, e) }

-- One row is evicted.
pub one-evicted : OneEvicted
one-evicted s a x y r q E F = let grants : Grant x ≡ Grant y = sym E.grants ∙ F.grants in (cc, E.row ∙ sym F.row)

module _ (s : State) (a : Announcement) (mask1 mask2 : ℕ) (w : WellFormed s) (range : AnnouncementInRange a) (p : Admitted s a mask1 mask2) where
  table : LoginTable s.logins
  table = (sound-of s w).logins

  module _ (x : Login) (e : a.action ≡ Grant x) where
    used : is_login x ≡ true
    used =
        let in-range : ActionInRange (Grant x) = rw e at range.action in
        let least = in-range.0 in
        ap not (ne_eqb x.login 0 (omega arith))

    evicts : needs_row x.login s.logins ≡ true → Evicts s a x (earliest_row s.logins)
    unfolding perform advance act effect use_proposal
    evicts needed =
        let r = earliest_row s.logins in
        let found : Found (without_lapsed a.day s) a.day (Grant x) = rw e at (always-found s a mask1 mask2 p) in
        let over : not (is_ended a.day r) ≡ false = rw needed at found.0 in
        record {
          grants = e;
          needed = needed;
          row = refl;
          earliest = earliest-is-first s.logins ((and-eq-true_iff (logins_full s.logins) _).0 needed).0;
          over = ltb-true r.end.0 a.day.0 (not-false _ over);
          gone = rw e (grant-drops no-login-good x s.logins table used needed);
          come = rw e (grant-has no-login-good x s.logins table used);
          sorted = login-order (perform s a) (keeps-well-formed s a mask1 mask2 w range p);
          full = rw e (grant-fills no-login-good x s.logins table used needed);
        }

  module _ (r : Login) (m : Memᴰ r s.logins) (u : is_login r ≡ true) where
    -- a row of another login than the granted one
    other : (x : Login) (e : a.action ≡ Grant x) → r.login ≢ x.login → RowAfter s a r
    unfolding perform advance act effect use_proposal
    other x e n = at (needs_row x.login s.logins) refl
      where
        keeps : (needs_row x.login s.logins ≡ true → r ≢ earliest_row s.logins) → RowAfter s a r
        keeps k = stays (rw e (grant-stays no-login-good x s.logins table (used x e) m u n k))

        named : (needed : needs_row x.login s.logins ≡ true) → Dec (r.login ≡ (earliest_row s.logins).login) → RowAfter s a r
        named needed (yes same) =
            let E = evicts x e needed in
            let there : r ≡ earliest_row s.logins = rising-one table.rising m E.earliest.listed u
            (evicted-used no-login-good x s.logins table (used x e) needed) same in
            evicted x (rw there E)
        named needed (no d) = keeps (λ _ same. d (ap (λ (q : Login). q.login) same))

        at : (b : Bool) → needs_row x.login s.logins ≡ b → RowAfter s a r
        at true needed = named needed (ℕ_discrete r.login (earliest_row s.logins).login)
        at false unneeded = keeps (λ needed. absurd (false≢true (sym unneeded ∙ needed)))

    after : (x : Action) → a.action ≡ x → RowAfter s a r
    unfolding perform advance act with_standing with_life effect use_proposal end_login
    after (Propose x) e = stays (rw e m)
    after (Cancel c) e = stays (rw e m)
    after (Presents i flag) e = stays (rw e m)
    after (Certify i life) e = stays (rw e m)
    after (Minima x) e = stays (rw e m)
    after (Remove i) e = stays (rw e m)
    after (Rejoin i life) e = stays (rw e m)
    after (Grant x) e = at (ℕ_discrete x.login r.login)
      where
        at : Dec (x.login ≡ r.login) → RowAfter s a r
        at (yes same) = replaced x e same
        at (no n) = other x e (λ same. n (sym same))
    after (End l) e = at (ℕ_discrete l r.login)
      where
        at : Dec (l ≡ r.login) → RowAfter s a r
        at (yes same) = ended (e ∙ ap End same)
        at (no n) = stays (rw e (to_fill login_rows no_login (to-keep _ m (ap not (ne_eqb r.login l (λ same. n (sym same)))))))

pub need-evicts : NeedEvicts
need-evicts s a mask1 mask2 w range p x e needed = evicts s a mask1 mask2 w range p x e needed

pub rows_stay : RowsStay
rows_stay s a mask1 mask2 w range p r m u = after s a mask1 mask2 w range p r m u a.action refl
