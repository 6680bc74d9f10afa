-- Laws of tests.
use mathlib.Core.Path.{◌≡◌, refl}
use mathlib.Core.Bool.{Bool, true, false, cond, ◌&&◌, ◌||◌, and-eq-true_iff, true≢false}
use Prim.Native.Nat.{ℕ, zero, suc, ◌<◌}
use native.Mathlib.Omega.{arith}

-- What holds of x where the test passes, and of y where it fails, holds of the one that is chosen.
pub cond_cases : {A : Type 0} (P : A → Type 0) (b : Bool) {x y : A} → (b ≡ true → P x) → (b ≡ false → P y) → P (cond b x y)
cond_cases P true f g = f refl
cond_cases P false f g = g refl

-- Neither of two tests passes.
pub or-false-of : (a b : Bool) → (a || b) ≡ false → (a ≡ false) × (b ≡ false)
or-false-of true b e = absurd (true≢false e)
or-false-of false b e = (refl, e)

-- What follows where two constructors are told to be equal: `clash (cc)`.
pub clash : {P : Type 0} → ◌≡◌ {A = ℕ} 0 1 → P
clash e = absurd (omega arith)

-- A test of every number below n, to be computed, and what it tells of each.
unfoldable pub all_below : (ℕ → Bool) → ℕ → Bool
all_below p zero = true
all_below p (suc n) = p 0 && all_below (λ k. p (suc k)) n

pub passes-below : (p : ℕ → Bool) (n : ℕ) → all_below p n ≡ true → (i : ℕ) → i < n → p i ≡ true
unfolding all_below
passes-below p zero e i h = absurd (omega arith)
passes-below p (suc n) e zero h = ((and-eq-true_iff (p 0) (all_below (λ k. p (suc k)) n)).0 e).0
passes-below p (suc n) e (suc i) h =
    passes-below (λ k. p (suc k)) n ((and-eq-true_iff (p 0) (all_below (λ k. p (suc k)) n)).0 e).1 i (omega arith)
