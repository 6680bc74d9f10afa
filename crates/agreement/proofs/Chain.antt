-- The states that a park reaches: the first one, and what a performed announcement makes of one. Where no two announcements performed from one state
-- differ, there is one state to a cycle, days never fall, and a login that is not listed stays out until it is granted again.
use mathlib.Core.Path.{◌≡◌, refl, sym, ap, ◌∙◌, subst}
use mathlib.Core.Bool.{Bool, true, false, true≢false}
use Prim.Native.Nat.{ℕ, suc, ◌≤◌, ◌<◌}
use native.Mathlib.Nat.{suc_inj}
use native.Mathlib.Decide.{dec_le}
use native.Mathlib.Omega.{arith}
use Rattle.state.specs.declared.State.{State}
use Rattle.state.specs.declared.Day.{Day}
use Rattle.tables.specs.Logins.{is_listed}
use Rattle.records.specs.declared.Announcement.{Announcement}
use Rattle.actions.specs.Perform.{perform}
use Rattle.actions.specs.Claims.{Advances, IsGrantOf}
use Rattle.actions.proofs.Performed.{only-grant-adds}
use Rattle.agreement.specs.Chain.{Reached, origin, next}

-- an announcement that is performed from a state of a cycle above e and below c, and grants the login
pub record GrantBetween (Step : State → Announcement → Type 0) (login e c : ℕ) : Type 0 where
  pub state : State
  pub announcement : Announcement
  pub step : Step state announcement
  pub grants : IsGrantOf login announcement
  pub above : e < state.cycle.0
  pub below : state.cycle.0 < c

module _ (first : State) (Step : State → Announcement → Type 0)
    (one : (s : State) (a b : Announcement) → Step s a → Step s b → a ≡ b)
    (advances : (s : State) (a : Announcement) → Step s a → Advances s a) where
  abbrev Reach : State → Type 0
  Reach s = Reached first Step s

  cycle-next : (s r : State) (a : Announcement) → Step r a → s ≡ perform r a → s.cycle.0 ≡ suc r.cycle.0
  cycle-next s r a d e = ap (λ (x : State). x.cycle.0) e ∙ (advances r a d).next

  cycle-first : (s : State) → s ≡ first → s.cycle.0 ≡ first.cycle.0
  cycle-first s e = ap (λ (x : State). x.cycle.0) e

  least-cycle : {s : State} → Reach s → first.cycle.0 ≤ s.cycle.0
  least-cycle {s} (origin e) = let c = cycle-first s e in omega arith
  least-cycle {s} (next r a R d e) =
      let h = least-cycle R in
      let c = cycle-next s r a d e in
      omega arith

  -- one state to a cycle
  pub agree : {s t : State} → Reach s → Reach t → s.cycle.0 ≡ t.cycle.0 → s ≡ t
  agree {s} {t} (origin e) (origin f) c = e ∙ sym f
  agree {s} {t} (origin e) (next q b Q g f) c =
      let h = least-cycle Q in
      let x = cycle-next t q b g f in
      let y = cycle-first s e in
      absurd (omega arith)
  agree {s} {t} (next r a R d e) (origin f) c =
      let h = least-cycle R in
      let x = cycle-next s r a d e in
      let y = cycle-first t f in
      absurd (omega arith)
  agree {s} {t} (next r a R d e) (next q b Q g f) c =
      let same : r ≡ q = agree R Q (suc_inj (sym (cycle-next s r a d e) ∙ c ∙ cycle-next t q b g f)) in
      let act : a ≡ b = one q a b (subst (λ (x : State). Step x a) same d) g in
      cc

  -- days never fall as the cycles go up
  pub days : {s t : State} → Reach s → Reach t → s.cycle.0 ≤ t.cycle.0 → s.day.0 ≤ t.day.0
  days {s} {t} S (origin f) c =
      let h = least-cycle S in
      let y = cycle-first t f in
      let z : s ≡ t = agree S (origin f) (omega arith) in
      rw z (omega arith)
  days {s} {t} S (next q b Q g f) c = go (λ h. days S Q h) (dec_le s.cycle.0 q.cycle.0)
    where
      go : (s.cycle.0 ≤ q.cycle.0 → s.day.0 ≤ q.day.0) → Dec (s.cycle.0 ≤ q.cycle.0) → s.day.0 ≤ t.day.0
      go ih (yes h) =
          let d = ih h in
          let u = (advances q b g).not-before in
          let v : t.day.0 ≡ b.day.0 = ap (λ (x : State). x.day.0) f ∙ ap (λ (x : Day). x.0) (advances q b g).day in
          omega arith
      go ih (no h) =
          let x = cycle-next t q b g f in
          let z : s ≡ t = agree S (next q b Q g f) (omega arith) in
          rw z (omega arith)

  -- the chain of a state of a later cycle goes through what an announcement made of s
  pub through : {s t : State} (a : Announcement) → Reach s → Step s a → Reach t → s.cycle.0 < t.cycle.0 → Reached (perform s a) Step t
  through {s} {t} a S d (origin f) c =
      let y = cycle-first t f in
      let z = least-cycle S in
      absurd (omega arith)
  through {s} {t} a S d (next q b Q g f) c = go (λ k. through a S d Q k) (dec_le (suc s.cycle.0) q.cycle.0)
    where
      go : (s.cycle.0 < q.cycle.0 → Reached (perform s a) Step q) → Dec (s.cycle.0 < q.cycle.0) → Reached (perform s a) Step t
      go ih (yes k) = next q b (ih k) g f
      go ih (no k) =
          let y = cycle-next t q b g f in
          let same : q ≡ s = agree Q S (omega arith) in
          let act : b ≡ a = one s b a (subst (λ (z : State). Step z b) same g) d in
          origin (f ∙ ap (λ (z : State). perform z b) same ∙ ap (perform s) act)

  module _ (s : State) (a : Announcement) (login : ℕ) (S : Reach s) (d : Step s a)
      (gone : is_listed login (perform s a).logins ≡ false) where
    -- a login that is listed in a cycle after the one that left it unlisted was granted in between
    pub granted-since : {t : State} → Reach t → s.cycle.0 < t.cycle.0 → is_listed login t.logins ≡ true
        → GrantBetween Step login s.cycle.0 t.cycle.0
    granted-since {t} (origin f) c h =
        let y = cycle-first t f in
        let z = least-cycle S in
        absurd (omega arith)
    granted-since {t} (next q b Q g f) c h = go (λ c' h'. granted-since Q c' h') (dec_le (suc s.cycle.0) q.cycle.0)
        (is_listed login q.logins) refl
      where
        above : t.cycle.0 ≡ suc q.cycle.0
        above = cycle-next t q b g f

        listed : is_listed login (perform q b).logins ≡ true
        listed = ap (λ (x : State). is_listed login x.logins) (sym f) ∙ h

        go : (s.cycle.0 < q.cycle.0 → is_listed login q.logins ≡ true → GrantBetween Step login s.cycle.0 q.cycle.0)
            → Dec (s.cycle.0 < q.cycle.0) → (v : Bool) → is_listed login q.logins ≡ v → GrantBetween Step login s.cycle.0 t.cycle.0
        go ih (yes k) true v =
            let x = ih k v in
            let y = above in
            let z = x.below in
            record { state = x.state; announcement = x.announcement; step = x.step; grants = x.grants; above = x.above; below = omega arith }
        go ih (yes k) false v =
            let y = above in
            record { state = q; announcement = b; step = g; grants = only-grant-adds q b login v listed; above = k; below = omega arith }
        go ih (no k) v' v =
            let y = above in
            let same : q ≡ s = agree Q S (omega arith) in
            let act : b ≡ a = one s b a (subst (λ (z : State). Step z b) same g) d in
            let left : perform q b ≡ perform s a = cc in
            absurd (true≢false (sym listed ∙ ap (λ (z : State). is_listed login z.logins) left ∙ gone))
