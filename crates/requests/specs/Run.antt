-- What node-run prints for its whole input.
use Rattle.std.specs.Prelude.{ℕ, zero, suc, ◌+◌, List, [], ◌++◌, cond, eqb, length, drop}
use Rattle.node.specs.declared.Node.{Node}
use Rattle.node.specs.Start.{blank_node}
use Rattle.requests.specs.declared.Step.{Step}
use Rattle.requests.specs.Requests.{step_of}
use Rattle.requests.specs.Lines.{line_of}

-- what node-run holds between two requests
pub record Session : Type 0 where
  pub node : Node
  -- of the next request
  pub ordinal : ℕ
  -- what follows in the input
  pub rest : List ℕ

-- what becomes of the next request
abbrev pub next_step : Session → Step
next_step s = step_of s.node s.rest

-- its line
abbrev pub next_line : Session → List ℕ
next_line s = line_of s.ordinal (next_step s).answer (next_step s).node.state.cycle.0

-- the session after it
abbrev pub next_session : Session → Session
next_session s = record { node = (next_step s).node; ordinal = s.ordinal + 1; rest = drop (next_step s).used s.rest }

-- the lines of a session, for at most `most` requests; "input that ends before a request just ends the run"
unfoldable pub lines_from : ℕ → Session → List ℕ
lines_from zero s = []
lines_from (suc most) s = cond (eqb (length s.rest) 0) [] (next_line s ++ cond (next_step s).ends [] (lines_from most (next_session s)))

-- all lines of a session, which has no more requests than bytes
abbrev pub lines_of : Session → List ℕ
lines_of s = lines_from (length s.rest) s

-- the session at the start of the input b
abbrev pub first_session : List ℕ → Session
first_session b = record { node = blank_node; ordinal = 1; rest = b }

-- the lines for the input b
abbrev pub run_of : List ℕ → List ℕ
run_of b = lines_of (first_session b)

-- the session where more of the input is read
abbrev pub read_on : Session → List ℕ → Session
read_on s more = record { node = s.node; ordinal = s.ordinal; rest = s.rest ++ more }
