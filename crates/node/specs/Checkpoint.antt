-- "A halted node still gives its checkpoint." 22 "output slice shorter than 1,108 (checkpoint) ...; longer ones keep their tail",
-- 1,110 since "rule 22's sizes follow" (02, A7)
use Rattle.std.specs.Prelude.{ℕ, List, cond, leb, length}
use Rattle.binary.specs.Number.{overwrite}
use Rattle.checkpoint.specs.Layout.{checkpoint_size}
use Rattle.checkpoint.specs.Checkpoint.{checkpoint_bytes}
use Rattle.node.specs.declared.Node.{Node}
use Rattle.node.specs.Reply.{CheckpointReply}
use Rattle.node.specs.CheckpointAnswer.{Given, Refused}

-- checkpoint, of a node and the output slice: what is handed back
unfoldable pub checkpoint_of : Node → List ℕ → CheckpointReply
checkpoint_of n out = record { node = n; answer = cond (leb checkpoint_size (length out)) Given (Refused 22) }

-- and what the output slice then holds
unfoldable pub checkpoint_slice : Node → List ℕ → List ℕ
checkpoint_slice n out = cond (leb checkpoint_size (length out)) (overwrite (checkpoint_bytes n.state) out) out
