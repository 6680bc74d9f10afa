-- Laws of options.
use mathlib.Core.Path.{◌≡◌, refl, sym}
use mathlib.Core.Bool.{Bool, true, false, cond}
use mathlib.Core.Option.{Option, none, some, some-injective}
use Rattle.lists.proofs.Tests.{clash}

-- Two options are the same where each is what the other is, unless it is none.
pub same-options : {A : Type 0} (a b : Option A) → ((x : A) → a ≡ some x → b ≡ some x) → ((x : A) → b ≡ some x → a ≡ some x) → a ≡ b
same-options none none f g = refl
same-options none (some y) f g = g y refl
same-options (some x) b f g = sym (f x refl)

-- Where an option that a test decides has a value, the test passed.
pub chosen : {A : Type 0} (b : Bool) (x y : A) → cond b (some x) none ≡ some y → (b ≡ true) × (x ≡ y)
chosen true x y e = (refl, some-injective x y e)
chosen false x y e = clash (cc)
