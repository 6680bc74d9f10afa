-- What a step of a park's chain tells: its state is reached and well formed, and no rule applied.
use mathlib.Core.Path.{◌≡◌, sym, subst}
use mathlib.Core.Logic.{◌≢◌}
use mathlib.Core.Bool.{true}
use mathlib.Core.List.{List, Memᴰ}
use Prim.Native.Nat.{ℕ}
use Rattle.state.specs.declared.Login.{Login}
use Rattle.state.specs.declared.State.{State}
use Rattle.state.specs.Rows.{is_login}
use Rattle.records.specs.declared.Announcement.{Announcement}
use Rattle.records.specs.Actions.{subject_of}
use Rattle.records.specs.Sheet.{level1, level2}
use Rattle.checkpoint.specs.Checkpoint.{read_checkpoint}
use Rattle.checkpoint.proofs.Earlier.{accepted-state}
use Rattle.records.specs.Claims.{AnnouncementInRange}
use Rattle.records.proofs.Ranges.{announcements-in-range}
use Rattle.actions.specs.Perform.{without_lapsed, perform}
use Rattle.actions.specs.Claims.{WellFormed, Admitted, Signed, UsesNotice, Found}
use Rattle.actions.proofs.Admits.{always-signed, always-found}
use Rattle.actions.proofs.Notified.{always-notified}
use Rattle.actions.specs.Evictions.{RowAfter}
use Rattle.actions.proofs.Performed.{keeps-well-formed}
use Rattle.actions.proofs.Evictions.{rows_stay}
use Rattle.agreement.specs.History.{History}
use Rattle.agreement.specs.Claims.{HoldsBytes, Park}
use Rattle.agreement.specs.Chain.{Step, Reached, origin, next}
use Rattle.agreement.proofs.Steps.{always}
use Rattle.agreement.proofs.Demand.{does}

module _ (first : List ℕ) (calls : History) (park : Park first calls) (s : State) (a : Announcement) (x : Step calls s a) where
  pub step-well-formed : WellFormed s
  step-well-formed =
      let p = x.performed in
      let w = ((always first calls park x.moment x.in_list).0.held p.host p.node p.held).well-formed in
      subst WellFormed (sym p.state) (record { fits = w.fits.0; well-formed = w.state })

  step-admitted : Admitted s a (level1 x.sheet) (level2 x.sheet)
  step-admitted =
      let p = x.performed in
      subst (λ (z : State). Admitted z a (level1 x.sheet) (level2 x.sheet)) (sym p.state)
      (does x.moment s x.bytes a x.sheet p).accepted.admitted

  step-in-range : AnnouncementInRange a
  step-in-range =
      let p = x.performed in
      let h = subst HoldsBytes p.called (park.bytes x.moment x.in_list) in
      (announcements-in-range x.bytes a h.0 p.read).1

  -- The state that it leaves is well formed too.
  pub step-leaves : WellFormed (perform s a)
  step-leaves = keeps-well-formed s a _ _ step-well-formed step-in-range step-admitted

  pub step-rows : (r : Login) → Memᴰ r s.logins → is_login r ≡ true → RowAfter s a r
  step-rows = rows_stay s a _ _ step-well-formed step-in-range step-admitted

  pub step-signed : Signed s (level1 x.sheet) (level2 x.sheet) a.action
  step-signed = always-signed s a _ _ step-admitted

  pub step-notified : (subject_of a.action).kind ≢ 0 → UsesNotice s a
  step-notified = always-notified s a _ _ step-well-formed step-admitted

  pub step-found : Found (without_lapsed a.day s) a.day a.action
  step-found = always-found s a _ _ step-admitted

  pub step-reached : Reached (read_checkpoint first).state (Step calls) s
  step-reached =
      let p = x.performed in
      subst (Reached (read_checkpoint first).state (Step calls)) (sym p.state)
      ((always first calls park x.moment x.in_list).0.held p.host p.node p.held).reach

-- Every state of the chain is well formed.
pub reached-well-formed : (first : List ℕ) (calls : History) → Park first calls → {s : State} → Reached (read_checkpoint first).state (Step calls) s
    → WellFormed s
reached-well-formed first calls park (origin e) =
    let w = accepted-state first park.first-bytes park.first-checkpoint in
    subst WellFormed (sym e) (record { fits = w.0; well-formed = w.1 })
reached-well-formed first calls park (next r a R x e) = subst WellFormed (sym e) (step-leaves first calls park r a x)
