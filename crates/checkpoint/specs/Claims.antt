-- "Each state has one checkpoint and each checkpoint one state, written and read."; "one state still has one kind-26 checkpoint", and what kind 16 is
-- read as (02, A7).
use Rattle.std.specs.Prelude.{◌≡◌, true, List, ◌∷◌, ◌++◌, ℕ, ◌+◌, ◌-◌, ◌*◌, take, drop}
use Rattle.binary.specs.Number.{Bytes, to_bytes}
use Rattle.state.specs.declared.State.{State}
use Rattle.state.specs.Limits.{login_rows}
use Rattle.state.specs.WellFormed.{is_well_formed}
use Rattle.checkpoint.specs.Layout.{kind_checkpoint, checkpoint_length, checkpoint_size, earlier_length, earlier_size, seat_size, proposal_size, login_size}
use Rattle.checkpoint.specs.Layout.{head_at, notices_at, tables_at, earlier_tables_at, tables_size, logins_at}
use Rattle.checkpoint.specs.Format.{current, earlier, earlier_notices, counted, checkpoint, head, tables, seat, proposal, login}
use Rattle.checkpoint.specs.Checkpoint.{Fits, checkpoint_bytes, is_of, read_checkpoint}

-- What is written is accepted, and reading it gives the state back, for every well-formed state.
abbrev pub StateReadBack : Type 0
StateReadBack = (s : State) → Fits s → is_well_formed s ≡ true → read_checkpoint (checkpoint_bytes s) ≡ record { ok = true; state = s }

-- What an accepted byte string of kind 26 is read as: a well-formed state, whose checkpoint is that byte string.
pub record ReadState (b : List ℕ) (s : State) : Type 0 where
  pub fits : Fits s
  pub well-formed : is_well_formed s ≡ true
  pub written_back : checkpoint_bytes s ≡ b

abbrev pub CheckpointWrittenBack : Type 0
CheckpointWrittenBack = (b : List ℕ) → Bytes b → is_of current b ≡ true → ReadState b (read_checkpoint b).state

-- ---- kind 16

-- the bytes of kind 16 as kind 26: with its length and kind, and 7 and 2 after S
abbrev pub renewed : List ℕ → List ℕ
renewed b = to_bytes 2 checkpoint_length ++ to_bytes 2 kind_checkpoint ++ take (notices_at - head_at) (drop head_at b) ++ 7 ∷ 2 ∷ drop earlier_tables_at b

-- What an accepted byte string of kind 16 is read as: a well-formed state with the notices 7 and 2, of which it is the one kind 16. Written again, it
-- is the kind 26 of this state: the same bytes with 7 and 2 after S.
pub record ReadEarlier (b : List ℕ) (s : State) : Type 0 where
  pub fits : Fits s
  pub well-formed : is_well_formed s ≡ true
  pub notices : s.minima.notices ≡ earlier_notices
  pub one : (checkpoint earlier.notices).encode ((earlier.length, earlier.kind), counted s) ≡ b
  pub written : checkpoint_bytes s ≡ renewed b
  pub read_again : read_checkpoint (renewed b) ≡ read_checkpoint b

abbrev pub EarlierReadWithSevenAndTwo : Type 0
EarlierReadWithSevenAndTwo = (b : List ℕ) → Bytes b → is_of earlier b ≡ true → ReadEarlier b (read_checkpoint b).state

-- The named sizes and places are those of the formats.
pub record LaidOut : Type 0 where
  pub whole : ((checkpoint current.notices).width ≡ checkpoint_size) × ((checkpoint earlier.notices).width ≡ earlier_size)
  pub length-field : (checkpoint_length + 2 ≡ checkpoint_size) × (earlier_length + 2 ≡ earlier_size)
  pub rows : (seat.width ≡ seat_size) × (proposal.width ≡ proposal_size) × (login.width ≡ login_size)
  pub before-tables : (head_at + (head current.notices).width ≡ tables_at) × (head_at + (head earlier.notices).width ≡ earlier_tables_at)
  pub tables : (tables.width ≡ tables_size) × (logins_at + login_rows * login_size ≡ tables_size)
