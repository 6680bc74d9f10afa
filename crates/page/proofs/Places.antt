-- The places of the rights.
use Prim.Native.Nat.{ℕ, zero, suc, ◌+◌, ◌*◌, ◌/◌, ◌%◌, ◌^◌, ◌<◌}
use native.Mathlib.Nat.{zero-add, add-zero, pow-suc, div-div-eq-div-mul}
use native.Mathlib.Omega.{arith}
use mathlib.Core.Path.{◌≡◌, refl, ap, ◌∙◌}
use mathlib.Core.Bool.{Bool, true, false, cond}
use lib.Dec.{eqb}
use lib.ListN.{length, get_or}
use borrow.Author.Tests.{eqb-true, eqb-false, ne_eqb}
use Rattle.state.specs.Limits.{right_count}
use Rattle.state.specs.Rows.{is_held}
use Rattle.page.specs.Line.{hyphen, place, places, rights_in}

pub length-places : (n i rights : ℕ) → length (places n i rights) ≡ n
unfolding places
length-places zero i rights = refl
length-places (suc n) i rights = ap suc (length-places n (suc i) rights)

-- the character at place k
place_at : (n i k rights : ℕ) → k < n → get_or (places n i rights) k 0 ≡ place (i + k) rights
unfolding places
place_at zero i k rights h = absurd (omega arith)
place_at (suc n) i zero rights h = rw add-zero
place_at (suc n) i (suc k) rights h =
    place_at n (suc i) k rights (omega arith) ∙ ap (λ (j : ℕ). place j rights) (omega arith)

pub place-of-right : (k rights : ℕ) → k < right_count → get_or (places right_count 0 rights) k 0 ≡ place k rights
place-of-right k rights h = place_at right_count 0 k rights h ∙ ap (λ (j : ℕ). place j rights) (zero-add k)

-- the bit that a character tells
bit-of : (i rights : ℕ) → cond (eqb (place i rights) hyphen) 0 1 ≡ rights / 2 ^ i % 2
bit-of i rights = by (is_held i rights) refl
  where
    by : (b : Bool) → is_held i rights ≡ b → cond (eqb (cond b (65 + i) hyphen) hyphen) 0 1 ≡ rights / 2 ^ i % 2
    by true e = let h = eqb-true (rights / 2 ^ i % 2) 1 e in rw (ne_eqb (65 + i) hyphen (λ (z : 65 + i ≡ hyphen). omega arith)) (omega arith)
    by false e = let h = eqb-false (rights / 2 ^ i % 2) 1 e in omega arith

-- n bits from bit i on, where there are no more
places-read : (n i rights : ℕ) → rights / 2 ^ i < 2 ^ n → rights_in (places n i rights) ≡ rights / 2 ^ i
unfolding places rights_in
places-read zero i rights h = omega arith
places-read (suc n) i rights h =
    let half : rights / 2 ^ suc i ≡ rights / 2 ^ i / 2 = rw (pow-suc, div-div-eq-div-mul) in
    let h' : rights / 2 ^ i < 2 ^ n * 2 = rw pow-suc at h in
    omega (arith, bit-of i rights, places-read n (suc i) rights (omega arith))

pub rights-read : (rights : ℕ) → rights < 2 ^ 16 → rights_in (places right_count 0 rights) ≡ rights
rights-read rights h = places-read right_count 0 rights (omega arith) ∙ omega arith
