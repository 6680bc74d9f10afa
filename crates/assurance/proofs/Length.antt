-- The length of an image: its tables decide it, and not the numbers in them.
use mathlib.Core.Path.{◌≡◌, refl, ◌∙◌}
use mathlib.Core.Bool.{true}
use mathlib.Core.List.{List}
use Prim.Native.Nat.{ℕ}
use lib.ListN.{length, take, drop, length-append, length-set}
use Rattle.binary.specs.Codec.{byte}
use Rattle.binary.proofs.Number.{number-length}
use Rattle.binary.proofs.Rows.{rows-size, length-decode_rows}
use Rattle.state.specs.Limits.{seat_count, proposal_rows, login_rows}
use Rattle.records.specs.Layout.{announcement_size, door_count}
use Rattle.checkpoint.specs.Layout.{checkpoint_size}
use Rattle.checkpoint.specs.Format.{current, seat, proposal, login}
use Rattle.checkpoint.specs.Checkpoint.{decode_as}
use Rattle.checkpoint.proofs.Written.{checkpoint-size}
use Rattle.verdicts.specs.declared.Own.{Own}
use Rattle.verdicts.specs.declared.AttemptCounts.{AttemptCounts}
use Rattle.verdicts.specs.Attempts.{with_misses}
use Rattle.node.specs.Query.{with_counts}
use Rattle.node.specs.WellFormed.{own_fields, fields_of, own_of, counts_of}
use Rattle.image.specs.Layout.{image_size, own_at}
use Rattle.image.specs.Image.{image_bytes, decode_image, is_image, read_image}

-- the own part is written as its width, whatever its numbers are
own-size : (o : Own) (c : AttemptCounts) → length o.vote ≡ announcement_size → length c.misses ≡ door_count
    → length (own_fields.encode (fields_of o c)) ≡ own_fields.width
own-size o c v m = simp (
  length-append,
  number-length,
  rows-size byte (λ x. refl) announcement_size o.vote v,
  rows-size byte (λ x. refl) door_count c.misses m,
)

-- the image of a node that was read, with another number of misses at a door
pub missed-size : (b : List ℕ) (door m : ℕ) → is_image b ≡ true
    → length (image_bytes (with_counts (with_misses door m (read_image b).node.counts) (read_image b).node)) ≡ image_size
unfolding read_image decode_image decode_as image_bytes
missed-size b door m e =
    let s = (decode_as current (take checkpoint_size b)).state in
    let state = checkpoint-size s (length-decode_rows seat seat_count _) (length-decode_rows proposal proposal_rows _)
    (length-decode_rows login login_rows _) in
    let p = own_fields.decode (drop own_at b) in
    let doors = length-set p.misses door m ∙ length-decode_rows byte door_count _ in
    rw (e, length-append, state, own-size (own_of p) (with_misses door m (counts_of p)) (length-decode_rows byte announcement_size _) doors)
