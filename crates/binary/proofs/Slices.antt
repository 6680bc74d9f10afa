-- Parts of a slice.
use Prim.Native.Nat.{ℕ, zero, suc, ◌+◌, ◌-◌}
use native.Mathlib.Nat.{zero-add, suc-add}
use native.Mathlib.Omega.{arith}
use mathlib.Core.Path.{◌≡◌}
use mathlib.Core.List.{List, [], ◌∷◌}
use lib.ListN.{length, take, drop, length-drop}
use lib.Seq.{take_all, take-nil}

-- the part that runs up to the end
pub part-from : (n : ℕ) (b : List ℕ) → take (length b - n) (drop n b) ≡ drop n b
part-from n b = take_all (length b - n) (drop n b) (simp length-drop (omega arith))

-- the last m of the first n + m bytes
pub drop-take : (n m : ℕ) (b : List ℕ) → drop n (take (n + m) b) ≡ take m (drop n b)
drop-take zero m b = rw zero-add
drop-take (suc n) m [] = rw (suc-add, take-nil)
drop-take (suc n) m (x ∷ xs) = rw suc-add (drop-take n m xs)
