-- "Image for C, 1,139 bytes: checkpoint;" and the own part, and 3 bytes more: "the counts of doors 1 to 3". Its checkpoint is of
-- the kind that is written.
use Rattle.std.specs.Prelude.{ℕ, List, ◌++◌, Bool, true, false, cond, ◌&&◌, eqb, leb, length, take, drop}
use Rattle.checkpoint.specs.Layout.{checkpoint_size}
use Rattle.checkpoint.specs.Format.{current}
use Rattle.checkpoint.specs.Checkpoint.{checkpoint_bytes, decode_as, is_of}
use Rattle.verdicts.specs.declared.Own.{Own}
use Rattle.verdicts.specs.declared.AttemptCounts.{AttemptCounts}
use Rattle.verdicts.specs.Attempts.{are_in_range}
use Rattle.node.specs.declared.Node.{Node}
use Rattle.node.specs.Start.{blank_node}
use Rattle.node.specs.WellFormed.{own_fields, fields_of, own_of, counts_of, is_well_formed_own}
use Rattle.image.specs.Layout.{image_size, own_at}

-- the bytes of a checkpoint, then those of an own part and its counts
abbrev pub with_own : List ℕ → Own → AttemptCounts → List ℕ
with_own checkpoint own counts = checkpoint ++ own_fields.encode (fields_of own counts)

unfoldable pub image_bytes : Node → List ℕ
image_bytes n = with_own (checkpoint_bytes n.state) n.own n.counts

-- the node in an image's bytes
unfoldable pub decode_image : List ℕ → Node
decode_image b = record {
  state = (decode_as current (take checkpoint_size b)).state;
  own = own_of (own_fields.decode (drop own_at b));
  counts = counts_of (own_fields.decode (drop own_at b));
}

-- b is exactly one well-formed image
unfoldable pub is_image : List ℕ → Bool
is_image b =
    let n = decode_image b in
    eqb (length b) image_size
    && (is_of current (take checkpoint_size b)
    && (leb (own_fields.decode (drop own_at b)).flag 1 && (is_well_formed_own n.state n.own && are_in_range n.counts)))

-- what reading an image gives: the node, or the blank one where the bytes are not a well-formed image
pub record ImageRead : Type 0 where
  pub ok : Bool
  pub node : Node

unfoldable pub read_image : List ℕ → ImageRead
read_image b = cond (is_image b) (record { ok = true; node = decode_image b }) (record { ok = false; node = blank_node })
