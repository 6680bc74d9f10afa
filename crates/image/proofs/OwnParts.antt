-- An image read: the fields of its own part at their offsets, and what the tests come to; written: the number of rows of a table.
use Prim.Native.Nat.{ℕ, zero, suc, ◌+◌, ◌≤◌}
use native.Mathlib.Omega.{arith}
use mathlib.Core.Path.{◌≡◌, refl, ap, ◌∙◌}
use mathlib.Core.Bool.{Bool, true, not, ◌&&◌}
use mathlib.Core.List.{List, [], ◌∷◌}
use lib.Dec.{eqb, leb, ltb}
use lib.ListN.{length, take, drop, length-drop}
use lib.Seq.{get_or-drop, drop-drop}
use borrow.Author.Tests.{eq-eqb}
use Rattle.binary.specs.Number.{field, byte_at}
use Rattle.binary.specs.Codec.{byte, encode_rows, decode_rows}
use Rattle.state.specs.Limits.{seat_count}
use Rattle.state.specs.Seats.{seat_at}
use Rattle.records.specs.Layout.{announcement_size}
use Rattle.checkpoint.specs.Layout.{checkpoint_size}
use Rattle.checkpoint.specs.Format.{current}
use Rattle.checkpoint.specs.Checkpoint.{decode_as, is_of}
use Rattle.verdicts.specs.declared.Own.{Own}
use Rattle.verdicts.specs.Attempts.{are_in_range}
use Rattle.node.specs.WellFormed.{own_fields, own_of, counts_of, is_well_formed_vote, is_well_formed_own}
use Rattle.image.specs.Layout.{image_size, own_at, life_at, flag_at, vote_at, counts_at}
use Rattle.image.specs.Image.{decode_image, is_image}

-- the own part in an image's bytes
abbrev pub own_in : List ℕ → Own
own_in b = own_of (own_fields.decode (drop own_at b))

-- The fields at their offsets.
abbrev pub own_from : List ℕ → Own
own_from b = record {
  seat = byte_at own_at b;
  life = field 4 life_at b;
  voted = eqb (byte_at flag_at b) 1;
  vote = decode_rows byte announcement_size (drop vote_at b);
}

pub own-at : (b : List ℕ) → own_in b ≡ own_from b
own-at b = simp (get_or-drop, drop-drop)

-- the counts in an image's bytes, one by one
pub counts-at : (b : List ℕ) → counts_of (own_fields.decode (drop own_at b))
    ≡ record { misses = byte_at counts_at b ∷ byte_at (counts_at + 1) b ∷ byte_at (counts_at + 2) b ∷ byte_at (counts_at + 3) b ∷ [] }
unfolding decode_rows
counts-at b = simp get_or-drop

flag_at_lem : (b : List ℕ) → (own_fields.decode (drop own_at b)).flag ≡ byte_at flag_at b
flag_at_lem b = simp (get_or-drop, drop-drop)

-- Rows of one byte are the bytes.
pub bytes-are : (n : ℕ) (b : List ℕ) → n ≤ length b → decode_rows byte n b ≡ take n b
unfolding decode_rows
bytes-are zero b h = refl
bytes-are (suc n) [] h = absurd (omega arith)
bytes-are (suc n) (x ∷ xs) h = ap (λ (l : List ℕ). x ∷ l) (bytes-are n xs (omega arith))

-- and a table of them is written as it stands
pub bytes-written : (b : List ℕ) → encode_rows byte b ≡ b
unfolding encode_rows
bytes-written [] = refl
bytes-written (x ∷ xs) = ap (λ (l : List ℕ). x ∷ l) (bytes-written xs)

-- What the tests of an own part come to, where its seat's standing and its vote are tested.
pub own-tested : (b : List ℕ) (standing : ℕ) (voted : Bool) → length b ≡ image_size
    → standing ≡ (seat_at (byte_at own_at b) (decode_as current (take checkpoint_size b)).state.seats).standing
    → voted ≡ is_well_formed_vote (decode_as current (take checkpoint_size b)).state.cycle (eqb (byte_at flag_at b) 1)
    (take announcement_size (drop vote_at b))
    → is_well_formed_own (decode_image b).state (decode_image b).own
    ≡ (ltb (byte_at own_at b) seat_count && (not (eqb standing 0) && (leb 1 (field 4 life_at b) && voted)))
unfolding decode_image is_well_formed_own
own-tested b standing voted l e f =
    let v = bytes-are announcement_size (drop vote_at b) (rw length-drop (omega arith)) in
    ap (is_well_formed_own (decode_as current (take checkpoint_size b)).state) (own-at b) ∙ rw (v, ← e, ← f)

-- What the tests of an image come to, where its state is accepted, and its own part and its counts are tested.
pub image-tested : (b : List ℕ) (own counts : Bool) → length b ≡ image_size → is_of current (take checkpoint_size b) ≡ true
    → own ≡ is_well_formed_own (decode_image b).state (decode_image b).own → counts ≡ are_in_range (decode_image b).counts
    → is_image b ≡ (leb (byte_at flag_at b) 1 && (own && counts))
unfolding is_image
image-tested b own counts l e f g = rw (eq-eqb _ _ l, e, flag_at_lem b, ← f, ← g)
