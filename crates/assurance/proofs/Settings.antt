-- How the notices of a park are set, and what that means for a proposal.
use mathlib.Core.Path.{◌≡◌, refl, ap, subst}
use mathlib.Core.Logic.{◌⊎◌, inl, inr}
use mathlib.Core.Bool.{Bool, true, false}
use mathlib.Core.List.{List}
use Prim.Native.Nat.{ℕ, ◌≤◌, ◌<◌}
use native.Mathlib.Omega.{arith}
use lib.Dec.{ltb}
use borrow.Author.Tests.{ltb-true, ltb-false}
use Rattle.state.specs.declared.Day.{Day}
use Rattle.state.specs.declared.Minima as M
use Rattle.state.specs.declared.Notices.{Notices}
use Rattle.state.specs.declared.State.{State}
use Rattle.state.specs.Time.{days_since}
use Rattle.state.specs.Minima.{set_over, notice_days}
use Rattle.state.proofs.MinimaRanges.{in-force}
use Rattle.tables.specs.Claims.{IsNotice}
use Rattle.records.specs.declared.Action.{Action}
use Rattle.records.specs.declared.Action.TheVariants.{Propose, Cancel, Presents, Certify, Minima, Remove, Rejoin, Grant, End}
use Rattle.records.specs.Actions.{subject_of}
use Rattle.checkpoint.specs.Checkpoint.{read_checkpoint}
use Rattle.actions.specs.Perform.{with_standing, with_life, effect, use_proposal, act, advance, without_lapsed, perform}
use Rattle.actions.proofs.Sound.{well-formed-in-force}
use Rattle.agreement.specs.History.{History}
use Rattle.agreement.specs.Claims.{Park}
use Rattle.agreement.specs.Chain.{Step, Reached, origin, next}
use Rattle.assurance.specs.Settings.{AlwaysAllowed, SetsNotices, NoticesAreSet, SettingsRipen, Shortened, WarnedUnlessShortened}
use Rattle.assurance.proofs.Facts.{reached-well-formed}
use Rattle.assurance.proofs.Notice.{always-noticed}

pub always-allowed : AlwaysAllowed
always-allowed first calls park s R =
    let f = in-force s.minima (well-formed-in-force s (reached-well-formed first calls park R)) in
    record { ordinary = (f.ordinary-low, f.ranges.ordinary-high); restart = (f.restart-low, f.ranges.restart-high) }

-- ---- who sets them

-- The minima after an action: as they were, or set by a minima.
abbrev MinimaFrom : State → Action → M.Minima → Type 0
MinimaFrom s x m = (m ≡ s.minima) ⊎ ((y : M.Minima) × (x ≡ Minima y) × (m ≡ set_over s.minima y))

minima-from : (s : State) (d : Day) (x : Action) → MinimaFrom s x (act s d x).minima
unfolding act with_standing with_life use_proposal effect
minima-from s d (Propose x) = inl refl
minima-from s d (Cancel c) = inl refl
minima-from s d (Presents i flag) = inl refl
minima-from s d (Certify i life) = inl refl
minima-from s d (Minima x) = inr (x, refl, refl)
minima-from s d (Remove i) = inl refl
minima-from s d (Rejoin i life) = inl refl
minima-from s d (Grant x) = inl refl
minima-from s d (End login) = inl refl

pub notices-are-set : NoticesAreSet
unfolding perform advance
notices-are-set first calls park u b x differ = by (minima-from (without_lapsed b.day u) b.day b.action)
  where
    by : MinimaFrom u b.action (perform u b).minima → SetsNotices (read_checkpoint first).state calls u b x
    by (inl e) = absurd (differ (ap (λ (m : M.Minima). m.notices) e))
    by (inr (y, named, set)) =
        let n = always-noticed first calls park u b x (rw named (λ z. omega arith)) in
        record {
          minima = y;
          named = named;
          set = set;
          noticed = n;
          days = subst (λ (z : Action). notice_days u.minima.notices (subject_of z).kind ≤ days_since b.day n.row.day) named n.notice.days;
        }

-- ---- what a setting makes mature

pub settings-ripen : SettingsRipen
settings-ripen old new x d r = record {
  young = λ h k. (λ n. let days = n.days in absurd (omega arith), λ n. let days = n.days in absurd (omega arith));
  ripened = λ n none. (by (ltb (notice_days new x.kind) (notice_days old x.kind)) refl n none, n.days);
}
  where
    by : (t : Bool) → ltb (notice_days new x.kind) (notice_days old x.kind) ≡ t → IsNotice new x d r → ¬ IsNotice old x d r
        → notice_days new x.kind < notice_days old x.kind
    by true l n none = ltb-true _ _ l
    by false l n none =
        let h = ltb-false (notice_days new x.kind) (notice_days old x.kind) l in
        let days = n.days in
        absurd (none (record { same = n.same; days = omega arith; valid = n.valid }))

-- ---- what an owner can rely on

module _ (first : List ℕ) (calls : History) (park : Park first calls) (kind : ℕ) where
  abbrev notice_of : State → ℕ
  notice_of s = notice_days s.minima.notices kind

  shortened : {s u : State} → Reached s (Step calls) u → notice_of u < notice_of s → Shortened (read_checkpoint first).state calls s u kind
  shortened (origin e) h = let same = ap notice_of e in absurd (omega arith)
  shortened {s} {u} (next q a R x e) h = by (ltb (notice_of (perform q a)) (notice_of q)) refl (shortened R)
    where
      same : notice_of u ≡ notice_of (perform q a)
      same = ap notice_of e

      -- the last step, or one before it
      by : (t : Bool) → ltb (notice_of (perform q a)) (notice_of q) ≡ t
          → (notice_of q < notice_of s → Shortened (read_checkpoint first).state calls s q kind) → Shortened (read_checkpoint first).state calls s u kind
      by true l sooner =
          let less = ltb-true (notice_of (perform q a)) (notice_of q) l in
          record {
            from = q;
            setting = a;
            step = x;
            after = R;
            before = origin e;
            shorter = less;
            sets = notices-are-set first calls park q a x (λ z. let k = ap (λ (m : Notices). notice_days m kind) z in absurd (omega arith));
          }
      by false l sooner =
          let not-less = ltb-false (notice_of (perform q a)) (notice_of q) l in
          let c = sooner (omega (arith, same)) in
          record {
            from = c.from;
            setting = c.setting;
            step = c.step;
            after = c.after;
            before = next q a c.before x e;
            shorter = c.shorter;
            sets = c.sets;
          }

pub warned-unless-shortened : WarnedUnlessShortened
warned-unless-shortened first calls park s u R b x n = by (ltb (notice_days u.minima.notices k) (notice_days s.minima.notices k)) refl
  where
    k : ℕ
    k = (subject_of b.action).kind

    by : (t : Bool) → ltb (notice_days u.minima.notices k) (notice_days s.minima.notices k) ≡ t
        → (notice_days s.minima.notices k ≤ days_since b.day n.row.day) ⊎ Shortened (read_checkpoint first).state calls s u k
    by true l = inr (shortened first calls park k R (ltb-true _ _ l))
    by false l =
        let h = ltb-false (notice_days u.minima.notices k) (notice_days s.minima.notices k) l in
        let days = n.notice.days in
        inl (omega arith)
