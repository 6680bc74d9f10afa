-- Laws of the little-endian numbers, over any width w.
use Prim.Native.Nat.{ℕ, zero, suc, ◌+◌, ◌*◌, ◌/◌, ◌%◌, ◌^◌, ◌≤◌, ◌<◌}
use native.Mathlib.Nat.{add-zero, pow-suc}
use native.Mathlib.Omega.{arith}
use mathlib.Core.Path.{◌≡◌, refl, ap, ◌∙◌}
use mathlib.Core.List.{List, [], ◌∷◌, ◌++◌}
use lib.ListN.{length, get_or, take, drop}
use lib.Seq.{get_or-drop}
use Rattle.binary.specs.Number.{Bytes, to_bytes, from_bytes}

-- w bytes are written
pub number-length : (w x : ℕ) → length (to_bytes w x) ≡ w
unfolding to_bytes
number-length zero x = refl
number-length (suc w) x = ap suc (number-length w (x / 256))

-- a number that fits is read back
pub number-read-back : (w x : ℕ) → x < 256 ^ w → (t : List ℕ) → from_bytes w (to_bytes w x ++ t) ≡ x
unfolding to_bytes from_bytes
number-read-back zero x h t = omega arith
number-read-back (suc w) x h t =
    let h' : x < 256 ^ w * 256 = rw pow-suc at h in
    omega (arith, number-read-back w (x / 256) (omega arith) t)

-- a number that is read fits
pub number_fits : (w : ℕ) (b : List ℕ) → Bytes b → from_bytes w b < 256 ^ w
unfolding from_bytes
number_fits zero b h = omega arith
number_fits (suc w) [] h = rw pow-suc (omega (arith, number_fits w [] h))
number_fits (suc w) (x ∷ xs) h = rw pow-suc (omega (arith, h 0, number_fits w xs (λ i. h (suc i))))

-- the bytes that a number was read from are written back
pub number-written-back : (w : ℕ) (b : List ℕ) → w ≤ length b → Bytes b → to_bytes w (from_bytes w b) ≡ take w b
unfolding to_bytes from_bytes
number-written-back zero b n h = refl
number-written-back (suc w) [] n h = absurd (omega arith)
number-written-back (suc w) (x ∷ xs) n h =
    let q : (x + 256 * from_bytes w xs) / 256 ≡ from_bytes w xs = omega (arith, h 0) in
    let r : (x + 256 * from_bytes w xs) % 256 ≡ x = omega (arith, h 0) in
    rw (r, q, number-written-back w xs (omega arith) (λ i. h (suc i)))

-- the first n bytes are bytes, and the bytes after them
pub bytes_take : (n : ℕ) (b : List ℕ) → Bytes b → Bytes (take n b)
bytes_take zero b h i = omega arith
bytes_take (suc n) [] h i = omega arith
bytes_take (suc n) (x ∷ xs) h zero = h 0
bytes_take (suc n) (x ∷ xs) h (suc i) = bytes_take n xs (λ j. h (suc j)) i

pub bytes_drop : (n : ℕ) (b : List ℕ) → Bytes b → Bytes (drop n b)
bytes_drop n b h i = rw get_or-drop (h (n + i))

-- the same number from the bytes at their indices
abbrev pub sum_at : ℕ → (ℕ → ℕ) → ℕ
sum_at zero f = 0
sum_at (suc w) f = f 0 + 256 * sum_at w (λ i. f (suc i))

sum-none : (w : ℕ) → sum_at w (λ i. 0) ≡ 0
sum-none zero = refl
sum-none (suc w) = omega (arith, sum-none w)

pub number-sum : (w : ℕ) (b : List ℕ) → from_bytes w b ≡ sum_at w (λ i. get_or b i 0)
unfolding from_bytes
number-sum zero b = refl
number-sum (suc w) [] = omega (arith, sum-none w)
number-sum (suc w) (x ∷ xs) = ap (λ (n : ℕ). x + 256 * n) (number-sum w xs)

pub number_at : (w at : ℕ) (b : List ℕ) → from_bytes (suc w) (drop at b) ≡ get_or b at 0 + 256 * sum_at w (λ i. get_or b (at + suc i) 0)
number_at w at b = number-sum (suc w) (drop at b) ∙ simp (get_or-drop, add-zero)
