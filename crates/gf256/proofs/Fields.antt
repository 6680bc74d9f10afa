-- What is claimed of the field.
use mathlib.Core.Path.{◌≡◌, refl, sym, ap, ◌∙◌}
use native.Mathlib.Omega.{arith}
use Rattle.gf256.specs.Field.{times, remainder, mul, inverse}
use Rattle.gf256.specs.Claims.{FieldLaws, PowersOfThree, ProductsByLogarithms, PublishedExamples}
use Rattle.gf256.proofs.Entries.{log, tested, log-up}
use Rattle.gf256.proofs.Laws.{add_assoc, add_comm, add-zero, add-self, add-byte, mul-byte, mul_comm, mul_assoc, mul-add, one-mul, power-up, power-add, log-power, inverse-byte, mul-inverse, inverse-only}

pub field_laws : FieldLaws
field_laws = record {
  add-byte = add-byte;
  add_assoc = add_assoc;
  add_comm = add_comm;
  add-zero = add-zero;
  add-self = add-self;
  mul-byte = mul-byte;
  mul_assoc = mul_assoc;
  mul_comm = mul_comm;
  mul-one = λ a h. mul_comm a 1 ∙ one-mul a h;
  inverse-byte = inverse-byte;
  mul-inverse = mul-inverse;
  distributes = mul-add;
}

pub powers-of-three : PowersOfThree
powers-of-three a h n = (
  log a,
  record {
    below = (tested a h).log-below;
    is = log-power a h n;
    only = λ m l e. sym (log-up m l) ∙ ap log (sym (power-up m) ∙ e);
  },
)

pub products-by-logarithms : ProductsByLogarithms
products-by-logarithms i j = power-add 3 i j

inverse-of-0x53 : inverse 0x53 ≡ 0xCA
inverse-of-0x53 = sym (inverse-only 0x53 0xCA (omega arith) (λ e. omega (arith, e)) (omega arith) product)
  where
    product : mul 0x53 0xCA ≡ 1
    product = unfold mul times remainder in refl

pub published-examples : PublishedExamples
unfolding mul times remainder
published-examples = record {
  product = refl;
  by-0x13 = refl;
  by-x = refl;
  by-x² = refl;
  by-x³ = refl;
  by-x⁴ = refl;
  inverse-of-0x53 = inverse-of-0x53;
}
