-- The two kinds of a query at door 0 are read alike: by computation, for each nine bytes behind the head.
use mathlib.Core.Path.{refl}
use mathlib.Core.List.{[], ◌∷◌}
use native.Mathlib.Omega.{arith}
use Rattle.binary.specs.Number.{from_bytes}
use Rattle.records.specs.StartQuery.{read_query}
use Rattle.records.specs.Claims.{Kind20IsDoor0}

pub kind-20-is-door-0 : Kind20IsDoor0
unfolding read_query from_bytes
kind-20-is-door-0 [] e = absurd (omega arith)
kind-20-is-door-0 (a ∷ []) e = absurd (omega arith)
kind-20-is-door-0 (a ∷ b ∷ []) e = absurd (omega arith)
kind-20-is-door-0 (a ∷ b ∷ c ∷ []) e = absurd (omega arith)
kind-20-is-door-0 (a ∷ b ∷ c ∷ d ∷ []) e = absurd (omega arith)
kind-20-is-door-0 (a ∷ b ∷ c ∷ d ∷ f ∷ []) e = absurd (omega arith)
kind-20-is-door-0 (a ∷ b ∷ c ∷ d ∷ f ∷ g ∷ []) e = absurd (omega arith)
kind-20-is-door-0 (a ∷ b ∷ c ∷ d ∷ f ∷ g ∷ h ∷ []) e = absurd (omega arith)
kind-20-is-door-0 (a ∷ b ∷ c ∷ d ∷ f ∷ g ∷ h ∷ i ∷ []) e = absurd (omega arith)
kind-20-is-door-0 (a ∷ b ∷ c ∷ d ∷ f ∷ g ∷ h ∷ i ∷ right ∷ []) e = refl
kind-20-is-door-0 (a ∷ b ∷ c ∷ d ∷ f ∷ g ∷ h ∷ i ∷ right ∷ x ∷ l) e = absurd (omega arith)
