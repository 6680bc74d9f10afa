-- What `contains` of an inclusive range answers at numbers.
use Prim.Native.Nat.{ℕ}
use native.Mathlib.Omega.{arith}
use mathlib.Core.Path.{◌≡◌, refl, sym}
use mathlib.Core.Bool.{Bool, true, false, ◌&&◌}
use lib.Dec.{eqb, leb, ltb}
use borrow.Author.Tests.{eqb-true, eqb-false, ltb-true, ltb-false, le-leb, lt-leb}
use Rattle.std.specs.Ordering.{nat_cmp, is_le, as_partial_cmp}
use Rattle.std.specs.Range.{range_inclusive_start, range_inclusive_end, range_inclusive_exhausted, range_inclusive_contains}
use Rattle.std.specs.declared.ops.RangeInclusive.{RangeInclusive}

is-le : (a x : ℕ) → is_le (nat_cmp a x) ≡ leb a x
is-le a x = go (ltb a x) (eqb a x) refl refl
  where
    go : (b c : Bool) → ltb a x ≡ b → eqb a x ≡ c → is_le (nat_cmp a x) ≡ leb a x
    go true c p q = let l = ltb-true a x p in rw p (sym (le-leb a x (omega arith)))
    go false true p q = let e = eqb-true a x q in rw (p, q) (sym (le-leb a x (omega arith)))
    go false false p q = let l = ltb-false a x p in let n = eqb-false a x q in rw (p, q) (sym (lt-leb a x (omega arith)))

pub in_range : (r : RangeInclusive ℕ) (a b x : ℕ) → range_inclusive_start r ≡ a → range_inclusive_end r ≡ b → range_inclusive_exhausted r ≡ false
    → range_inclusive_contains (as_partial_cmp nat_cmp) r x ≡ (leb a x && leb x b)
in_range r a b x s e f = rw (s, e, f, is-le a x, is-le x b)
