-- "Start. Commissioning is a start from the park's first checkpoint. Misses 0, no vote. A life above the listed one is taken, but votes only after a
-- rejoin names it."
use Rattle.std.specs.Prelude.{ℕ, List, cond, eqb, Option, Some, None}
use Rattle.state.specs.declared.State.{State}
use Rattle.state.specs.WellFormed.{blank_state}
use Rattle.records.specs.declared.Start.{Start}
use Rattle.records.specs.StartQuery.{read_start}
use Rattle.checkpoint.specs.Checkpoint.{CheckpointRead, read_checkpoint}
use Rattle.verdicts.specs.Own.{own_afresh}
use Rattle.verdicts.specs.Attempts.{no_misses}
use Rattle.verdicts.specs.Verdicts.{start_refusal}
use Rattle.node.specs.declared.Node.{Node}
use Rattle.node.specs.Reply.{StartReply}
use Rattle.node.specs.StartAnswer.{Started, Refused}

-- "a refused start yields no node"
unfoldable pub blank_node : Node
blank_node = record { state = blank_state; own = own_afresh 0 0; counts = no_misses }

abbrev pub refuses_start : ℕ → StartReply
refuses_start k = record { node = blank_node; answer = Refused k }

abbrev pub starts : State → Start → StartReply
starts s x = record { node = record { state = s; own = own_afresh x.seat x.life; counts = no_misses }; answer = Started }

unfoldable pub start_read : State → Start → StartReply
start_read s x = let k = start_refusal s x in cond (eqb k 0) (starts s x) (refuses_start k)

abbrev pub start_records : CheckpointRead → Option Start → StartReply
start_records c None = refuses_start 1
start_records c (Some x) = cond c.ok (start_read c.state x) (refuses_start 1)

-- start, of a checkpoint's and a start record's bytes
unfoldable pub start_of : List ℕ → List ℕ → StartReply
start_of cb sb = start_records (read_checkpoint cb) (read_start sb)
