-- A rule of a chain that applies: the chain gives a number, and none above that rule's.
use mathlib.Core.Path.{◌≡◌}
use mathlib.Core.Bool.{Bool, true}
use Prim.Native.Nat.{ℕ, ◌≤◌}
use native.Mathlib.Omega.{arith}
use lib.Dec.{eqb, ltb, lit≤}
use borrow.Author.Tests.{eqb-true, ltb-true, ltb-false}
use Rattle.lists.proofs.Tests.{cond_cases}
use Rattle.refusals.specs.Refusals.{refuse_if, lowest, ◌or_else◌}
use Rattle.refusals.proofs.Chains.{not-zero, within, rule-within, lowest-within}

-- r is the number of a rule, and not above j
pub record UpTo (j r : ℕ) : Type 0 where
  pub some : 1 ≤ r
  pub most : r ≤ j

module _ {j : ℕ} where
  -- a rule that applies
  pub by_itself : (t : Bool) (k : ℕ) → t ≡ true → 1 ≤ k → k ≤ j → UpTo j (refuse_if t k)
  by_itself t k e l u = rw e (omega arith)

  -- in the first part of a chain, or in the rest behind rules of lower numbers
  pub in-first : (a b : ℕ) → UpTo j a → UpTo j (a or_else b)
  in-first a b h = cond_cases (UpTo j) (eqb a 0) (λ e. let z = eqb-true a 0 e in absurd (omega arith)) (λ e. h)

  pub in_rest : (a b : ℕ) → a ≤ j → UpTo j b → UpTo j (a or_else b)
  in_rest a b l h = cond_cases (UpTo j) (eqb a 0) (λ e. h) (λ e. let z = not-zero a e in omega arith)

  -- in either of two, of which the lower number is given
  pub in_left : (a b : ℕ) → UpTo j a → UpTo j (lowest a b)
  unfolding lowest
  in_left a b h =
      cond_cases (UpTo j) (eqb a 0) (λ e. let z = eqb-true a 0 e in absurd (omega arith))
      (λ e. cond_cases (UpTo j) (eqb b 0) (λ f. h)
      (λ f. cond_cases (UpTo j) (ltb a b) (λ g. h) (λ g. let z = not-zero b f in let l = ltb-false a b g in omega arith)))

  pub in_right : (a b : ℕ) → UpTo j b → UpTo j (lowest a b)
  unfolding lowest
  in_right a b h =
      cond_cases (UpTo j) (eqb a 0) (λ e. h)
      (λ e. cond_cases (UpTo j) (eqb b 0) (λ f. let z = eqb-true b 0 f in absurd (omega arith))
      (λ f. cond_cases (UpTo j) (ltb a b) (λ g. let z = not-zero a e in let l = ltb-true a b g in omega arith) (λ g. h)))

-- What `search` is handed to find the rule that applies.
pub ruleset reaches = (by_itself, in-first, in_rest, within, rule-within, lowest-within, lit≤, tt)
