-- Where an open answer comes from.
use mathlib.Core.Path.{◌≡◌, refl, sym, ap, ◌∙◌}
use mathlib.Core.Bool.{true, true≢false}
use Prim.Native.Nat.{ℕ}
use native.Mathlib.Decide.{ℕ_discrete}
use native.Mathlib.Omega.{arith}
use Rattle.state.specs.declared.Login.{Login}
use Rattle.state.specs.declared.State.{State}
use Rattle.state.specs.Rows.{is_login}
use Rattle.tables.specs.Logins.{find_login, is_listed, grant_login}
use Rattle.tables.proofs.LoginTable.{unlisted-ended}
use Rattle.records.specs.declared.Announcement.{Announcement}
use Rattle.records.specs.declared.Action.{Action}
use Rattle.records.specs.declared.Action.TheVariants.{Propose, Cancel, Presents, Certify, Minima, Remove, Rejoin, Grant, End}
use Rattle.checkpoint.specs.Checkpoint.{read_checkpoint}
use Rattle.actions.specs.Perform.{perform, advance, act, with_standing, with_life, use_proposal, effect}
use Rattle.agreement.specs.History.{History}
use Rattle.agreement.specs.Chain.{Step, Reached, origin, next}
use Rattle.agreement.proofs.Steps.{always}
use Rattle.agreement.proofs.Demand.{opens, not-before-given}
use Rattle.assurance.specs.Provenance.{Stays, Provenance, at_first, granted, OpenIsGranted}
use Rattle.tables.proofs.FoundLogins.{found-row, grant-found, grant-others, end-others}

-- What a step does to the row of a login that is listed afterwards: it grants that row, or the row that was there stays.
data After (login : ℕ) (r : State) (a : Announcement) : Type 0 where
  grants : a.action ≡ Grant (find_login login (perform r a).logins) → After login r a
  leaves : find_login login (perform r a).logins ≡ find_login login r.logins → After login r a

module _ (login : ℕ) (r : State) (a : Announcement) (listed : is_listed login (perform r a).logins ≡ true) where
  after : (x : Action) → a.action ≡ x → After login r a
  unfolding perform advance act with_standing with_life use_proposal effect
  after (Propose x) e = leaves (rw e refl)
  after (Cancel c) e = leaves (rw e refl)
  after (Presents i flag) e = leaves (rw e refl)
  after (Certify i life) e = leaves (rw e refl)
  after (Minima x) e = leaves (rw e refl)
  after (Remove i) e = leaves (rw e refl)
  after (Rejoin i life) e = leaves (rw e refl)
  after (Grant x) e = at (ℕ_discrete x.login login)
    where
      there : is_listed login (grant_login x r.logins) ≡ true
      there = rw e at listed

      at : Dec (x.login ≡ login) → After login r a
      at (yes same) = grants (e ∙ ap Grant (rw e (sym (grant-found login x r.logins same there))))
      at (no n) = leaves (rw e (grant-others login x r.logins n there))
  after (End l) e = at (ℕ_discrete l login)
    where
      at : Dec (l ≡ login) → After login r a
      at (yes same) = absurd (true≢false (sym listed ∙ rw (e, same) (unlisted-ended login r.logins)))
      at (no n) = leaves (rw e (end-others login l r.logins n))

module _ (first : State) (calls : History) (login : ℕ) where
  -- what a row comes from is also that of the next state, where it stays
  later : {r u : State} {row : Login} (a : Announcement) → Step calls r a → Stays login row r a → u ≡ perform r a
      → Provenance first calls login r row → Provenance first calls login u row
  later {r} a x l e (at_first f S) = at_first f (next r a S (x, l) e)
  later {r} a x l e (granted q b Q y f S) = granted q b Q y f (next r a S (x, l) e)

  stems : {u : State} → Reached first (Step calls) u → is_listed login u.logins ≡ true → Provenance first calls login u
      (find_login login u.logins)
  unfolding is_listed
  stems (origin e) listed = at_first (ap (λ (z : State). find_login login z.logins) (sym e)) (origin e)
  stems {u} (next r a R x e) listed = at (stems R)
      (after login r a (ap (λ (z : State). is_listed login z.logins) (sym e) ∙ listed) a.action refl)
    where
      here : find_login login (perform r a).logins ≡ find_login login u.logins
      here = ap (λ (z : State). find_login login z.logins) (sym e)

      at : (is_listed login r.logins ≡ true → Provenance first calls login r (find_login login r.logins)) → After login r a
          → Provenance first calls login u (find_login login u.logins)
      at before (grants f) = granted r a R x (f ∙ ap Grant here) (origin e)
      at before (leaves same) =
          let was : find_login login u.logins ≡ find_login login r.logins = sym here ∙ same in
          rw was (later a x (record { before = refl; after = same }) e (before (ap is_login (sym was) ∙ listed)))

pub open-is-granted : OpenIsGranted
open-is-granted first calls park o =
    let n = o.node in
    let q = o.query in
    let O = opens o.moment n q o.opened in
    let R = ((always first calls park o.moment o.in_list).0.held o.opened.host n o.opened.held).reach in
    let v = not-before-given q.day n.state.day in
    let w = O.within-silence in
    let e = O.not-ended in
    record {
      row = find_login q.login n.state.logins;
      provenance = stems (read_checkpoint first).state calls q.login R O.listed;
      named = (found-row q.login n.state.logins O.listed).1;
      right = O.right-held;
      end = omega arith;
      heard = omega arith;
    }
