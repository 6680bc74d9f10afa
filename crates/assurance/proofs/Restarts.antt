-- The notice of a rejoin, and the days before a replacement's life is listed.
use mathlib.Core.Path.{◌≡◌, refl, sym, ap, ◌∙◌, subst}
use mathlib.Core.Logic.{◌≢◌, ◌⊎◌, inl, inr}
use mathlib.Core.List.{List}
use Prim.Native.Nat.{ℕ, ◌≤◌}
use native.Mathlib.Omega.{arith}
use Rattle.state.specs.declared.State.{State}
use Rattle.state.specs.Time.{days_since}
use Rattle.state.specs.Seats.{free, seat_at}
use Rattle.state.specs.Minima.{notice_days}
use Rattle.records.specs.declared.Announcement.{Announcement}
use Rattle.records.specs.declared.Action.{Action}
use Rattle.records.specs.Actions.{subject_of}
use Rattle.checkpoint.specs.Checkpoint.{read_checkpoint}
use Rattle.actions.specs.Perform.{advance, without_lapsed, perform}
use Rattle.actions.specs.Claims.{Signed}
use Rattle.actions.proofs.Performed.{never-frees}
use Rattle.agreement.specs.History.{History}
use Rattle.agreement.specs.Claims.{Park}
use Rattle.agreement.specs.Chain.{Step, Reached, origin, next}
use Rattle.agreement.proofs.Demand.{advances}
use Rattle.assurance.specs.Restarts.{RejoinsNoticed, CooledOff, ReplacementsCoolOff}
use Rattle.assurance.proofs.Facts.{step-found}
use Rattle.assurance.proofs.Notice.{always-noticed}
use Rattle.assurance.proofs.Lives.{From, life-from}

pub rejoins-noticed : RejoinsNoticed
rejoins-noticed first calls park u b x i life e =
    let n = always-noticed first calls park u b x (rw e (λ z. omega arith)) in
    record {
      row = n.row;
      subject = n.notice.same ∙ ap subject_of e;
      least = subst (λ (z : Action). notice_days u.minima.notices (subject_of z).kind ≤ days_since b.day n.row.day) e n.notice.days;
      most = n.notice.valid;
      proposed = n.proposed;
      signed = subst (Signed u _ _) e n.signed;
      once = n.once;
    }

module _ (first : List ℕ) (calls : History) (park : Park first calls) (i : ℕ) where
  abbrev Cooled : State → ℕ → Type 0
  Cooled u life = CooledOff (read_checkpoint first).state calls u i life

  abbrev life_in : State → ℕ
  life_in s = (seat_at i s.seats).life

  -- it holds of each later state
  later : {q : State} {life : ℕ} (a : Announcement) → Step calls q a → Cooled q life → Cooled (perform q a) life
  later {q} a x c =
      let d = advances first calls park q a x in
      let forward = d.not-before in
      let day = d.day in
      let old = c.days in
      record {
        from = c.from;
        rejoin = c.rejoin;
        step = c.step;
        named = c.named;
        notice = c.notice;
        since = next q a c.since x refl;
        days = rw day (omega arith);
      }

  -- From s on the seat is not free, and its life is that of s or has cooled off.
  pub record Since (s u : State) : Type 0 where
    pub held : (seat_at i u.seats).standing ≢ free
    pub life : (life_in u ≡ life_in s) ⊎ Cooled u (life_in u)

  -- one step
  stepped : {s q : State} (a : Announcement) → Step calls q a → Since s q → Since s (perform q a)
  unfolding perform advance
  stepped {s} {q} a x h = record {
    held = never-frees q a i h.held;
    life = at h.life (life-from (without_lapsed a.day q) a.day i a.action);
  }
    where
      at : (life_in q ≡ life_in s) ⊎ Cooled q (life_in q) → From q a.day i a.action (life_in (perform q a))
          → (life_in (perform q a) ≡ life_in s) ⊎ Cooled (perform q a) (life_in (perform q a))
      at (inl e) (inl same) = inl (same ∙ e)
      at (inr c) (inl same) = inr (later a x (subst (Cooled q) (sym same) c))
      at k (inr (inl f)) = absurd (h.held (rw f at (step-found first calls park q a x)))
      at k (inr (inr f)) =
          let n = rejoins-noticed first calls park q a x i _ f in
          inr (record { from = q; rejoin = a; step = x; named = f; notice = n; since = origin refl; days = n.least })

  goes_on : {s u : State} → (seat_at i s.seats).standing ≢ free → Reached s (Step calls) u → Since s u
  goes_on {s} n (origin e) = subst (Since s) (sym e) (record { held = n; life = inl refl })
  goes_on {s} n (next q a R x e) = subst (Since s) (sym e) (stepped a x (goes_on n R))

pub replacements-cool-off : ReplacementsCoolOff
replacements-cool-off first calls park s u R i n differ = by (goes_on first calls park i n R).life
  where
    by : ((seat_at i u.seats).life ≡ (seat_at i s.seats).life) ⊎ Cooled first calls park i u (seat_at i u.seats).life
        → CooledOff (read_checkpoint first).state calls u i (seat_at i u.seats).life
    by (inl e) = absurd (differ e)
    by (inr c) = c
