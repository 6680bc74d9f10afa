-- Each well-formed node has one image, and each image is of one node.
use Rattle.std.specs.Prelude.{◌≡◌, true, List, ℕ, ◌+◌}
use Rattle.binary.specs.Number.{Bytes}
use Rattle.records.specs.Layout.{door_count}
use Rattle.node.specs.declared.Node.{Node}
use Rattle.node.specs.WellFormed.{own_fields, WellFormedNode}
use Rattle.image.specs.Layout.{image_size, own_at, counts_at}
use Rattle.image.specs.Image.{image_bytes, is_image, read_image}

-- What is written is accepted, and reading it gives the node back, for every well-formed node.
abbrev pub NodeReadBack : Type 0
NodeReadBack = (n : Node) → WellFormedNode n → read_image (image_bytes n) ≡ record { ok = true; node = n }

-- What an accepted byte string is read as: a well-formed node, whose image is that byte string.
pub record ReadNode (b : List ℕ) (n : Node) : Type 0 where
  pub well-formed : WellFormedNode n
  pub written_back : image_bytes n ≡ b

abbrev pub ImageWrittenBack : Type 0
ImageWrittenBack = (b : List ℕ) → Bytes b → is_image b ≡ true → ReadNode b (read_image b).node

-- The named size and places are those of the format.
abbrev pub ImageLaidOut : Type 0
ImageLaidOut = (own_at + own_fields.width ≡ image_size) × (counts_at + door_count ≡ image_size)
