-- What node-run rests on.
use Rattle.std.specs.Prelude.{◌≡◌, true, false, cond, List, [], ◌++◌, ℕ, ◌+◌, ◌≤◌, length}
use Rattle.binary.specs.Number.{Bytes}
use Rattle.node.specs.declared.Node.{Node}
use Rattle.requests.specs.declared.Answer.TheVariants.{Started}
use Rattle.requests.specs.Framing.{holds_request, request_room}
use Rattle.requests.specs.Requests.{is_none, step_of}
use Rattle.requests.specs.Run.{Session, next_step, next_line, next_session, lines_from, lines_of, read_on}

-- A request may be answered before the input is read on: where b holds it whole, what follows changes nothing in what becomes of it.
abbrev pub MoreInput : Type 0
MoreInput = (n : Node) (b c : List ℕ) → holds_request b ≡ true → step_of n (b ++ c) ≡ step_of n b

-- So many bytes hold it whole: a buffer that is as large is never too small.
abbrev pub RoomForRequest : Type 0
RoomForRequest = (b : List ℕ) → Bytes b → request_room ≤ length b → holds_request b ≡ true

-- A request that the input does not hold whole ends the run.
abbrev pub EndsOrHolds : Type 0
EndsOrHolds = (n : Node) (b : List ℕ) → (step_of n b).ends ≡ false → holds_request b ≡ true

-- No line is left out: for more requests than the rest has bytes, the lines are the same.
abbrev pub NoLineLeftOut : Type 0
NoLineLeftOut = (s : Session) (k : ℕ) → lines_from (length s.rest + k) s ≡ lines_of s

-- The lines of a session are that of its next request, and those of the session after it.
abbrev pub LineByLine : Type 0
LineByLine = (s : Session) → 1 ≤ length s.rest
    → lines_of s ≡ next_line s ++ cond (next_step s).ends [] (lines_of (next_session s))

-- The same before the input is read on, where the session holds its next request whole.
abbrev pub LineAhead : Type 0
LineAhead = (s : Session) (more : List ℕ) → holds_request s.rest ≡ true
    → lines_of (read_on s more) ≡ next_line s ++ cond (next_step s).ends [] (lines_of (read_on (next_session s) more))

-- The blank node stands for none and for no node: what started is a node, and no step loses one.
abbrev pub StartsNode : Type 0
StartsNode = (n : Node) (b : List ℕ) → (step_of n b).answer ≡ Started → is_none (step_of n b).node ≡ false

abbrev pub KeepsNode : Type 0
KeepsNode = (n : Node) (b : List ℕ) → is_none n ≡ false → is_none (step_of n b).node ≡ false
