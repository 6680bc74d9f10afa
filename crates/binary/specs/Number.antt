-- "Integers are little-endian."
use Rattle.std.specs.Prelude.{ℕ, zero, suc, ◌+◌, ◌*◌, ◌/◌, ◌%◌, ◌<◌, Bool, true, false, ◌&&◌, List, [], ◌∷◌, ◌++◌, eqb, length, get_or, drop}
use Rattle.lists.specs.Fold.{all}

-- what a slice of bytes holds: each element is below 256
abbrev pub Bytes : List ℕ → Type 0
Bytes b = (i : ℕ) → get_or b i 0 < 256

-- the w bytes of x, lowest first
unfoldable pub to_bytes : ℕ → ℕ → List ℕ
to_bytes zero x = []
to_bytes (suc w) x = x % 256 ∷ to_bytes w (x / 256)

-- the number in the first w bytes of b; bytes that b does not have are 0
unfoldable pub from_bytes : ℕ → List ℕ → ℕ
from_bytes zero b = 0
from_bytes (suc w) [] = 0
from_bytes (suc w) (x ∷ xs) = x + 256 * from_bytes w xs

-- the number in the w bytes of b that start at index `at`
abbrev pub field : ℕ → ℕ → List ℕ → ℕ
field w at b = from_bytes w (drop at b)

-- the byte of b at an index
abbrev pub byte_at : ℕ → List ℕ → ℕ
byte_at at b = get_or b at 0

-- "unused ones zero": every byte of b from index `at` on is zero
unfoldable pub is_zero_from : ℕ → List ℕ → Bool
is_zero_from at b = all (λ x. eqb x 0) (drop at b)

-- the same bytes
unfoldable pub is_same_bytes : List ℕ → List ℕ → Bool
is_same_bytes [] [] = true
is_same_bytes [] (y ∷ ys) = false
is_same_bytes (x ∷ xs) [] = false
is_same_bytes (x ∷ xs) (y ∷ ys) = eqb x y && is_same_bytes xs ys

-- "A record is a 2-byte length (of what follows it), a 2-byte kind, a body.": b is one record with this length field
abbrev pub is_framed : ℕ → List ℕ → Bool
is_framed n b = eqb (length b) (n + 2) && eqb (field 2 0 b) n

-- and of this kind
abbrev pub is_record : ℕ → ℕ → List ℕ → Bool
is_record n kind b = is_framed n b && eqb (field 2 2 b) kind

-- what a slice holds after these bytes were written to its front: "longer ones keep their tail"
unfoldable pub overwrite : List ℕ → List ℕ → List ℕ
overwrite bytes slice = bytes ++ drop (length bytes) slice
