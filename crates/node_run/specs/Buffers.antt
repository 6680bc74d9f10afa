-- What a run and its two buffers stand for.
use Rattle.std.specs.Prelude.{ℕ, ◌+◌, ◌-◌, ◌≤◌, Bool, true, not, ◌&&◌, ◌||◌, List, ltb, take, drop}
use Rattle.requests.specs.Run.{Session}
use Rattle.node_run.specs.declared.Run.{Run}

-- what is read of the input and not yet used
abbrev pub held : Run → List ℕ → List ℕ
held r input = take (r.to - r.from) (drop r.from input)

abbrev pub session_of : Run → List ℕ → Session
session_of r input = record { node = r.node; ordinal = r.ordinal; rest = held r input }

-- the lines that are not yet written
abbrev pub pending_lines : Run → List ℕ → List ℕ
pending_lines r output = take r.pending output

-- what is read lies in the buffer for input, and the buffer for lines has that much room behind the pending ones; both buffers by their lengths
abbrev pub Fits : ℕ → Run → ℕ → ℕ → Type 0
Fits room r input output = (r.from ≤ r.to) × ((r.to ≤ input) × (r.pending + room ≤ output))

-- the greatest number of 64 bits
abbrev pub last_ordinal : ℕ
last_ordinal = 18446744073709551615

abbrev pub goes_on : Run → Bool
goes_on r = not (r.ends || r.failed) && ltb r.ordinal last_ordinal

-- the run after its pending lines were handed to `write`, which may fail
abbrev pub flushed : Run → Bool → Run
flushed r failed = record {
  node = r.node;
  ordinal = r.ordinal;
  from = r.from;
  to = r.to;
  exhausted = r.exhausted;
  pending = 0;
  ends = r.ends;
  failed = failed;
}

-- the run where the input ended before a request
abbrev pub stopped : Run → Run
stopped r = record {
  node = r.node;
  ordinal = r.ordinal;
  from = r.from;
  to = r.to;
  exhausted = r.exhausted;
  pending = r.pending;
  ends = true;
  failed = r.failed;
}
