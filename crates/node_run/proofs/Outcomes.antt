-- What the steps of a turn come to.
use Prim.Native.Nat.{ℕ, ◌+◌, ◌-◌, ◌≤◌, ◌<◌}
use native.Mathlib.Nat.{sub-zero}
use native.Mathlib.Omega.{arith}
use mathlib.Core.Path.{◌≡◌, refl, sym, ap, ◌∙◌}
use mathlib.Core.Bool.{Bool, true, false, ◌||◌, true≢false}
use mathlib.Core.List.{List, [], ◌++◌, append-nil}
use lib.ListN.{length, take, drop}
use lib.Dec.{ltb}
use lib.Seq.{take_all}
use borrow.Author.Tests.{ltb-true, ltb-false}
use Rattle.binary.specs.Number.{Bytes}
use Rattle.binary.specs.Splice.{splice}
use Rattle.requests.specs.declared.Step.{Step}
use Rattle.requests.specs.Framing.{holds_request, request_room}
use Rattle.requests.specs.Lines.{line_room, line_of}
use Rattle.requests.specs.Run.{Session, next_step}
use Rattle.requests.proofs.Frames.{room-for-request}
use Rattle.requests.proofs.Extents.{used-in, line-ends}
use Rattle.node_run.specs.declared.Run.{Run}
use Rattle.node_run.specs.Buffers.{held, session_of, pending_lines, Fits, flushed}
use Rattle.node_run.specs.Turns.{Filling, Ready, Answered}
use Rattle.node_run.proofs.Kept.{rest-kept, front-written, front_read}

-- the session of a run that holds b
abbrev with_held : Run → List ℕ → Session
with_held r b = record { node = r.node; ordinal = r.ordinal; rest = b }

-- the run after the step t, with a line of which the buffer has so many bytes pending
abbrev pub after : Run → Step → ℕ → Run
after r t pending = record {
  node = t.node;
  ordinal = r.ordinal + 1;
  from = r.from + t.used;
  to = r.to;
  exhausted = r.exhausted;
  pending = pending;
  ends = t.ends;
  failed = r.failed;
}

abbrev pub line_after : Run → Step → List ℕ
line_after r t = line_of r.ordinal t.answer t.node.state.cycle.0

pub answered : (r : Run) (input output output' : List ℕ) (t : Step) (pending : ℕ) → Fits line_room r (length input) (length output)
    → t ≡ next_step (session_of r input)
    → pending ≡ r.pending + length (line_after r t)
    → output' ≡ splice output r.pending (line_after r t)
    → length output' ≡ length output
    → Answered r input output (after r t pending) output'
answered r input output output' t pending fits e p o l =
    let u : r.from + t.used ≤ r.to = used-in r.node input r.from r.to t fits.0 fits.1.0 e in
    let k = line-ends r.pending pending _ _ _ p in
    record {
      session =
          ap (λ (b : List ℕ). record { node = t.node; ordinal = r.ordinal + 1; rest = b }) (rest-kept input r.from r.to t.used)
          ∙ ap (λ (x : Step). record { node = x.node; ordinal = r.ordinal + 1; rest = drop x.used (held r input) }) e;
      ends = ap (λ (x : Step). x.ends) e;
      lines =
          rw (p, o) (front-written output r.pending (line_after r t) (omega arith))
          ∙ ap (λ (x : Step). pending_lines r output ++ line_after r x) e;
      exhausted = refl;
      failed = refl;
      fits = (u, (fits.1.0, omega arith));
    }

module _ (r : Run) (input output : List ℕ) (fits : Fits 0 r (length input) (length output))
    (whole : r.exhausted ≡ false → holds_request (held r input) ≡ true) where
  pub ready_held : r.pending + line_room ≤ length output → Ready r input output r input
  ready_held room = record {
    more = [];
    session = ap (with_held r) (sym (append-nil (held r input)));
    once = λ e. (e, refl);
    whole = whole;
    room = λ e f. absurd (true≢false (sym f ∙ e));
    ends = refl;
    handed = [];
    lines = refl;
    fits = (fits.0, (fits.1.0, room));
  }

  pub ready-flushed : (failed : Bool) → line_room ≤ length output → Ready r input output (flushed r failed) input
  ready-flushed failed room = record {
    more = [];
    session = ap (with_held r) (sym (append-nil (held r input)));
    once = λ e. (e, refl);
    whole = whole;
    room = λ e f. absurd (true≢false (sym f ∙ e));
    ends = refl;
    handed = pending_lines r output;
    lines = sym (append-nil (pending_lines r output));
    fits = (fits.0, (fits.1.0, omega arith));
  }

-- the run after its lines were handed to `write` and its input was read on, up to an index
abbrev pub filled : Run → Bool → ℕ → Bool → Run
filled r failed to exhausted = record {
  node = r.node;
  ordinal = r.ordinal;
  from = 0;
  to = to;
  exhausted = exhausted;
  pending = 0;
  ends = r.ends;
  failed = failed;
}

pub ready-filled : (r : Run) (input output input' : List ℕ) (failed : Bool) (to : ℕ) (exhausted : Bool) → line_room ≤ length output
    → r.exhausted ≡ false → (moved : List ℕ) → take (r.to - r.from) moved ≡ held r input → Filling (r.to - r.from) moved to exhausted input'
    → Ready r input output (filled r failed to exhausted) input'
ready-filled r input output input' failed to exhausted room goes moved front h = record {
  more = take (to - (r.to - r.from)) (drop (r.to - r.from) input');
  session =
      ap (with_held r)
      (ap (λ (k : ℕ). take k input') (sub-zero to) ∙ front_read input' (held r input) (r.to - r.from) to h.further (h.kept ∙ front));
  once = λ e. absurd (true≢false (sym e ∙ goes));
  whole = λ e. ap (λ (k : ℕ). holds_request (take k input')) (sub-zero to) ∙ h.whole e;
  room = λ _. h.room;
  ends = refl;
  handed = pending_lines r output;
  lines = sym (append-nil (pending_lines r output));
  fits = (omega arith, (h.fits, omega arith));
}

-- the first test fails, so the second one passes
pub or-second : (a b : Bool) → (a || b) ≡ true → a ≡ false → b ≡ true
or-second true b e f = absurd (true≢false f)
or-second false b e f = e

-- a buffer that does not hold the request whole has room
pub has_room : (to : ℕ) (b b' : List ℕ) → Bytes b' → request_room ≤ length b' → take to b' ≡ take to b → holds_request (take to b) ≡ false
    → to < length b'
has_room to b b' h k e f = at (ltb to (length b')) refl
  where
    at : (d : Bool) → ltb to (length b') ≡ d → to < length b'
    at true t = ltb-true _ _ t
    at false t =
        let whole : holds_request (take to b) ≡ true = rw (← e, take_all to b' (ltb-false _ _ t)) (room-for-request b' h k) in
        absurd (true≢false (sym whole ∙ f))
