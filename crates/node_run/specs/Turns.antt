-- What each turn of node-run comes to, by the definition of its session.
use Rattle.std.specs.Prelude.{ℕ, ◌≤◌, ◌<◌, ◌≡◌, Bool, true, false, cond, List, [], ◌++◌, length, take}
use Rattle.requests.specs.Framing.{holds_request}
use Rattle.requests.specs.Lines.{line_room}
use Rattle.requests.specs.Run.{next_step, next_line, next_session, lines_of, run_of, read_on}
use Rattle.node_run.specs.declared.Run.{Run}
use Rattle.node_run.specs.Buffers.{held, session_of, pending_lines, Fits, goes_on, stopped}

-- A buffer, with input before index `start`, is read into until it holds a request whole or is exhausted: the last read gave nothing, and had room.
-- It then holds input before index `to`.
pub record Filling (start : ℕ) (input : List ℕ) (to : ℕ) (exhausted : Bool) (input' : List ℕ) : Type 0 where
  pub further : start ≤ to
  pub fits : to ≤ length input'
  pub kept : take start input' ≡ take start input
  pub whole : exhausted ≡ false → holds_request (take to input') ≡ true
  pub room : exhausted ≡ true → to < length input'

-- r' is r that holds the next request whole, or all that is left of the input, with room for its line
pub record Ready (r : Run) (input output : List ℕ) (r' : Run) (input' : List ℕ) : Type 0 where
  -- what was read
  pub more : List ℕ
  pub session : session_of r' input' ≡ read_on (session_of r input) more
  -- once the input is exhausted, no more is read
  pub once : r.exhausted ≡ true → (r'.exhausted ≡ true) × (more ≡ [])
  pub whole : r'.exhausted ≡ false → holds_request (held r' input') ≡ true
  -- it is exhausted only by a read that had room
  pub room : r.exhausted ≡ false → r'.exhausted ≡ true → r'.to < length input'
  pub ends : r'.ends ≡ r.ends
  -- the lines that were handed to `write`
  pub handed : List ℕ
  pub lines : pending_lines r output ≡ handed ++ pending_lines r' output
  pub fits : Fits line_room r' (length input') (length output)

-- r' is r after the request at the front of what it holds
pub record Answered (r : Run) (input output : List ℕ) (r' : Run) (output' : List ℕ) : Type 0 where
  pub session : session_of r' input ≡ next_session (session_of r input)
  pub ends : r'.ends ≡ (next_step (session_of r input)).ends
  pub lines : pending_lines r' output' ≡ pending_lines r output ++ next_line (session_of r input)
  pub exhausted : r'.exhausted ≡ r.exhausted
  pub failed : r'.failed ≡ r.failed
  pub fits : Fits 0 r' (length input) (length output')

-- r' is r after a turn, in which m was made ready
pub data Turned (r : Run) (input output : List ℕ) (r' : Run) (input' output' : List ℕ) : Type 0 where
  -- the next request is answered
  answers : (m : Run) → Ready r input output m input' → m.from < m.to → Answered m input' output r' output'
      → Turned r input output r' input' output'
  -- the input ended before a request
  stops : (m : Run) → Ready r input output m input' → m.from ≡ m.to → r' ≡ stopped m → output' ≡ output
      → Turned r input output r' input' output'
  -- a write failed
  fails : (m : Run) → Ready r input output m input' → m.failed ≡ true → r' ≡ m → output' ≡ output
      → Turned r input output r' input' output'

-- The turns so far, by the definition of the whole run.
pub record Printed (r : Run) (input output : List ℕ) : Type 0 where
  -- all that was read, and all lines that were handed to `write`
  pub read : List ℕ
  pub written : List ℕ
  -- whatever more the input has (nothing, once it is exhausted): the lines for the whole of it are those written, those pending, and, unless the run
  -- ends, those of the session that is held
  pub lines : (more : List ℕ) → (r.exhausted ≡ true → more ≡ [])
      → run_of (read ++ more) ≡ (written ++ pending_lines r output) ++ cond r.ends [] (lines_of (read_on (session_of r input) more))

-- All turns: the lines that were handed to `write` are those for the whole input, unless a write failed or the ordinals came to an end.
pub record Finished (r : Run) (input : List ℕ) : Type 0 where
  pub read : List ℕ
  pub written : List ℕ
  pub lines : (more : List ℕ) → (r.exhausted ≡ true → more ≡ [])
      → run_of (read ++ more) ≡ written ++ cond r.ends [] (lines_of (read_on (session_of r input) more))
  pub stops : goes_on r ≡ false
