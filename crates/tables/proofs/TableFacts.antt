-- What equal numbers of a subject and an unused row tell.
use mathlib.Core.Path.{◌≡◌, refl}
use Prim.Native.Nat.{ℕ}
use Rattle.state.specs.declared.Subject.{Subject}
use Rattle.tables.specs.Claims.{EmptyIsNotFull}

-- Subjects of one kind and with the same arguments are the same.
pub same-subject : (kind arguments : ℕ) (x : Subject) → kind ≡ x.kind → arguments ≡ x.arguments → record { kind = kind; arguments = arguments } ≡ x
same-subject kind arguments x p q = rw (p, q)

pub empty-is-not-full : EmptyIsNotFull
empty-is-not-full = (refl, refl)
