-- The checkpoint, written and read.
use Rattle.std.specs.Prelude.{ℕ, List, Bool, true, false, cond, ◌&&◌, ◌||◌, eqb}
use Rattle.binary.specs.Number.{is_record}
use Rattle.state.specs.declared.State.{State}
use Rattle.state.specs.WellFormed.{is_well_formed, blank_state}
use Rattle.checkpoint.specs.Format.{Counted, counted, Form, notices, current, earlier, checkpoint, body}

-- what a State in memory is: each number within its width, 32 seats, 16 proposals and 64 logins
abbrev pub Fits : State → Type 0
Fits s = (body notices).Fits (counted s)

-- "kind 26 is the one written"
unfoldable pub checkpoint_bytes : State → List ℕ
checkpoint_bytes s = (checkpoint current.notices).encode ((current.length, current.kind), counted s)

-- the state and the two counts in the bytes of a checkpoint of that form
unfoldable pub decode_as : Form → List ℕ → Counted
decode_as f b = ((checkpoint f.notices).decode b).1

-- b is exactly one well-formed checkpoint of that form
unfoldable pub is_of : Form → List ℕ → Bool
is_of f b =
    let c = decode_as f b in
    is_record f.length f.kind b
    && ((eqb c.proposals (counted c.state).proposals && eqb c.logins (counted c.state).logins) && is_well_formed c.state)

-- and of either form
unfoldable pub is_checkpoint : List ℕ → Bool
is_checkpoint b = is_of current b || is_of earlier b

-- what reading a checkpoint gives: the state, or a blank one where the bytes are not a well-formed checkpoint
pub record CheckpointRead : Type 0 where
  pub ok : Bool
  pub state : State

abbrev pub read_as : Form → List ℕ → CheckpointRead
read_as f b = record { ok = true; state = (decode_as f b).state }

abbrev pub not_read : CheckpointRead
not_read = record { ok = false; state = blank_state }

unfoldable pub read_checkpoint : List ℕ → CheckpointRead
read_checkpoint b = cond (is_of current b) (read_as current b) (cond (is_of earlier b) (read_as earlier b) not_read)
