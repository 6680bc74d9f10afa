-- Chains of rules: what it tells that none applies, and what a number tells.
use mathlib.Core.Path.{◌≡◌, refl, sym, ◌∙◌}
use mathlib.Core.Logic.{◌⊎◌, inl, inr}
use mathlib.Core.Bool.{Bool, true, false}
use Prim.Native.Nat.{ℕ, ◌≤◌}
use native.Mathlib.Omega.{arith}
use lib.Dec.{eqb, ltb, lit≤}
use borrow.Author.Tests.{eqb-true, eqb-false}
use Rattle.lists.proofs.Tests.{cond_cases}
use Rattle.refusals.specs.Refusals.{refuse_if, lowest, ◌or_else◌}

-- Where the first refusal among two is none, neither is one.
pub passes : (a b : ℕ) → ◌or_else◌ a b ≡ 0 → (a ≡ 0) × (b ≡ 0)
passes a b =
    cond_cases (λ (n : ℕ). n ≡ 0 → (a ≡ 0) × (b ≡ 0)) (eqb a 0) (λ e h. (eqb-true a 0 e, h)) (λ e h. absurd (eqb-false a 0 e h))

-- A rule that refuses with a number from 1 does not apply.
pub unrefused : (applies : Bool) (n : ℕ) → eqb n 0 ≡ false → refuse_if applies n ≡ 0 → applies ≡ false
unrefused true n e h = absurd (eqb-false n 0 e h)
unrefused false n e h = refl

-- Both at once: such a rule, and those after it.
pub passes-rule : (applies : Bool) (n b : ℕ) → eqb n 0 ≡ false → ◌or_else◌ (refuse_if applies n) b ≡ 0 → (applies ≡ false) × (b ≡ 0)
passes-rule applies n b e h = let p = passes (refuse_if applies n) b h in (unrefused applies n e p.0, p.1)

-- A number that is not 0.
pub not-zero : (k : ℕ) → eqb k 0 ≡ false → 1 ≤ k
not-zero k e = let n = eqb-false k 0 e in omega (arith, n)

-- A number that a chain gives is that of its first rule, which applies, or comes from the rest, and the first rule does not apply.
pub by-rule : {P : Type 0} (t : Bool) (k b j : ℕ) → eqb k 0 ≡ false → (j ≡ k → t ≡ true → P) → (t ≡ false → b ≡ j → P) → (refuse_if t k or_else b) ≡ j
    → P
by-rule true k b j n f g e = f (sym e ∙ rw n) refl
by-rule false k b j n f g e = g refl e

-- A number that a chain of two parts gives comes from one of them.
pub by_part : {P : Type 0} (a b k : ℕ) → (a ≡ k → P) → (b ≡ k → P) → (a or_else b) ≡ k → P
by_part {P} a b k f g = cond_cases (λ (m : ℕ). m ≡ k → P) (eqb a 0) (λ _. g) (λ _. f)

-- A number that is not 0 is given by a rule that applies.
pub refused : (t : Bool) (k j : ℕ) → 1 ≤ j → refuse_if t k ≡ j → (j ≡ k) × (t ≡ true)
refused true k j h e = (sym e, refl)
refused false k j h e = absurd (omega arith)

-- No number of a chain is above m where none of its parts is.
pub within : (a b m : ℕ) → a ≤ m → b ≤ m → (a or_else b) ≤ m
within a b m p q = cond_cases (λ (n : ℕ). n ≤ m) (eqb a 0) (λ e. q) (λ e. p)

pub rule-within : (t : Bool) (k m : ℕ) → k ≤ m → refuse_if t k ≤ m
rule-within true k m h = h
rule-within false k m h = omega arith

-- ---- the lower of two numbers

-- Where it is none, neither is one, and else it is one of them.
pub lowest-none : (a b : ℕ) → lowest a b ≡ 0 → (a ≡ 0) × (b ≡ 0)
unfolding lowest
lowest-none a b =
    cond_cases (λ (n : ℕ). n ≡ 0 → (a ≡ 0) × (b ≡ 0)) (eqb a 0) (λ e h. (eqb-true a 0 e, h))
    (λ e. cond_cases (λ (n : ℕ). n ≡ 0 → (a ≡ 0) × (b ≡ 0)) (eqb b 0) (λ f h. (h, eqb-true b 0 f))
    (λ f. cond_cases (λ (n : ℕ). n ≡ 0 → (a ≡ 0) × (b ≡ 0)) (ltb a b) (λ g h. absurd (eqb-false a 0 e h)) (λ g h. absurd (eqb-false b 0 f h))))

pub lowest-one : (a b k : ℕ) → lowest a b ≡ k → (a ≡ k) ⊎ (b ≡ k)
unfolding lowest
lowest-one a b k =
    cond_cases (λ (n : ℕ). n ≡ k → (a ≡ k) ⊎ (b ≡ k)) (eqb a 0) (λ e h. inr h)
    (λ e. cond_cases (λ (n : ℕ). n ≡ k → (a ≡ k) ⊎ (b ≡ k)) (eqb b 0) (λ f h. inl h)
    (λ f. cond_cases (λ (n : ℕ). n ≡ k → (a ≡ k) ⊎ (b ≡ k)) (ltb a b) (λ g h. inl h) (λ g h. inr h)))

pub lowest-within : (a b m : ℕ) → a ≤ m → b ≤ m → lowest a b ≤ m
unfolding lowest
lowest-within a b m p q =
    cond_cases (λ (n : ℕ). n ≤ m) (eqb a 0) (λ e. q)
    (λ e. cond_cases (λ (n : ℕ). n ≤ m) (eqb b 0) (λ f. p) (λ f. cond_cases (λ (n : ℕ). n ≤ m) (ltb a b) (λ g. p) (λ g. q)))

-- What `search` is handed to bound a chain.
pub ruleset bounds = (within, rule-within, lowest-within, lit≤, tt)
