-- What the tests of minima tell, and that minima which are named over those in force are in force.
use mathlib.Core.Path.{◌≡◌, refl}
use mathlib.Core.Bool.{Bool, true, false, cond, and-eq-true_iff}
use Prim.Native.Nat.{ℕ, ◌≤◌}
use lib.Dec.{eqb, leb}
use borrow.Author.Tests.{leb-true, le-leb, eqb-false}
use native.Mathlib.Omega.{arith}
use Rattle.state.specs.declared.Minima.{Minima}
use Rattle.state.specs.Limits.{most_margin, most_least, most_silence, most_notice}
use Rattle.state.specs.Minima.{is_in_range, is_in_force, or_kept, set_over, notice_days}
use Rattle.state.specs.Kinds.{kind_rejoin}

pub record InRange (x : Minima) : Type 0 where
  pub margin : x.margin ≤ most_margin
  pub least-low : 1 ≤ x.least
  pub least-high : x.least ≤ most_least
  pub silence-low : 1 ≤ x.silence
  pub silence-high : x.silence ≤ most_silence
  pub ordinary-high : x.notices.ordinary ≤ most_notice
  pub restart-high : x.notices.restart ≤ most_notice

pub in-range : (x : Minima) → is_in_range x ≡ true → InRange x
unfolding is_in_range
in-range x e =
    let t = simp and-eq-true_iff at e in
    record {
      margin = leb-true _ _ t.0;
      least-low = leb-true _ _ t.1.0.0;
      least-high = leb-true _ _ t.1.0.1;
      silence-low = leb-true _ _ t.1.1.0.0;
      silence-high = leb-true _ _ t.1.1.0.1;
      ordinary-high = leb-true _ _ t.1.1.1.0;
      restart-high = leb-true _ _ t.1.1.1.1;
    }

-- Minima in force are within the ranges of those that are named, and have notices of at least a day.
pub record InForce (x : Minima) : Type 0 where
  pub ranges : InRange x
  pub ordinary-low : 1 ≤ x.notices.ordinary
  pub restart-low : 1 ≤ x.notices.restart

pub in-force : (x : Minima) → is_in_force x ≡ true → InForce x
unfolding is_in_force
in-force x e =
    let t = (and-eq-true_iff (is_in_range x) _).0 e in
    let n = (and-eq-true_iff (leb 1 x.notices.ordinary) _).0 t.1 in
    record { ranges = in-range x t.0; ordinary-low = leb-true _ _ n.0; restart-low = leb-true _ _ n.1 }

-- A notice that is kept or named has the range of a notice in force.
kept : (named now : ℕ) → named ≤ most_notice → 1 ≤ now → now ≤ most_notice → (1 ≤ or_kept named now) × (or_kept named now ≤ most_notice)
kept named now h low high = by (eqb named 0) refl
  where
    by : (b : Bool) → eqb named 0 ≡ b → (1 ≤ or_kept named now) × (or_kept named now ≤ most_notice)
    by true e = rw e (low, high)
    by false e =
        let n = eqb-false named 0 e in
        let low : 1 ≤ named = omega (arith, n) in
        rw e (low, h)

pub set-in-force : (now x : Minima) → is_in_force now ≡ true → is_in_range x ≡ true → is_in_force (set_over now x) ≡ true
unfolding is_in_force is_in_range
set-in-force now x f r =
    let F = in-force now f in
    let R = in-range x r in
    let o = kept x.notices.ordinary now.notices.ordinary R.ordinary-high F.ordinary-low F.ranges.ordinary-high in
    let q = kept x.notices.restart now.notices.restart R.restart-high F.restart-low F.ranges.restart-high in
    rw (
      le-leb _ _ R.margin,
      le-leb _ _ R.least-low,
      le-leb _ _ R.least-high,
      le-leb _ _ R.silence-low,
      le-leb _ _ R.silence-high,
      le-leb _ _ o.0,
      le-leb _ _ o.1,
      le-leb _ _ q.0,
      le-leb _ _ q.1,
    )

-- The notice of each kind, where minima are in force.
pub notice-low : (x : Minima) (kind : ℕ) → is_in_force x ≡ true → 1 ≤ notice_days x.notices kind
notice-low x kind e = by (eqb kind kind_rejoin)
  where
    by : (b : Bool) → 1 ≤ cond b x.notices.restart x.notices.ordinary
    by true = (in-force x e).restart-low
    by false = (in-force x e).ordinary-low
