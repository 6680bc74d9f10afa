-- What the library writes and reads as bytes, and what it leaves of a slice of which a part was written, in the words of this crate.
use Prim.Native.Nat.{ℕ, ◌+◌, ◌-◌, ◌/◌}
use native.Mathlib.Nat.{add-sub_cancel_left}
use native.Mathlib.Omega.{arith}
use mathlib.Core.Path.{◌≡◌, refl}
use mathlib.Core.List.{List}
use lib.ListN.{length}
use lib.Seq.{drop-drop}
use borrow.Rule.Slice.PartMut.{put_mid}
use Rattle.std.specs.Int.{w16, w32, w64, to_le_bytes}
use Rattle.binary.specs.Number.{to_bytes}
use Rattle.binary.specs.Splice.{splice}
use Rattle.binary.proofs.Number.{number-length}

-- v written over the part from `at` to its end
pub put_mid-splice : (at k : ℕ) (d v : List ℕ) → k ≡ length v → put_mid at k d v ≡ splice d at v
unfolding splice
put_mid-splice at k d v e = rw (e, drop-drop)

-- the w bytes of a number written over the w bytes from `at` on
pub put_number : (w at x : ℕ) (d v : List ℕ) → v ≡ to_bytes w x → put_mid at (at + w - at) d v ≡ splice d at (to_bytes w x)
put_number w at x d v e = rw e (put_mid-splice at (at + w - at) d (to_bytes w x) (rw number-length (add-sub_cancel_left at w)))

-- the bytes of a number, lowest first
pub le_bytes-two : (x : ℕ) → to_le_bytes w16 x ≡ to_bytes 2 x
unfolding to_bytes
le_bytes-two x = refl

pub le_bytes-four : (x : ℕ) → to_le_bytes w32 x ≡ to_bytes 4 x
unfolding to_bytes
le_bytes-four x =
    let two : x / 65536 ≡ x / 256 / 256 = omega arith in
    let three : x / 16777216 ≡ x / 256 / 256 / 256 = omega arith in
    rw (two, three)

pub le_bytes-eight : (x : ℕ) → to_le_bytes w64 x ≡ to_bytes 8 x
unfolding to_bytes
le_bytes-eight x =
    let two : x / 65536 ≡ x / 256 / 256 = omega arith in
    let three : x / 16777216 ≡ x / 256 / 256 / 256 = omega arith in
    let four : x / 4294967296 ≡ x / 256 / 256 / 256 / 256 = omega arith in
    let five : x / 1099511627776 ≡ x / 256 / 256 / 256 / 256 / 256 = omega arith in
    let six : x / 281474976710656 ≡ x / 256 / 256 / 256 / 256 / 256 / 256 = omega arith in
    let seven : x / 72057594037927936 ≡ x / 256 / 256 / 256 / 256 / 256 / 256 / 256 = omega arith in
    rw (two, three, four, five, six, seven)
