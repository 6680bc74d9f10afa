-- The turns, by the definition of the whole run.
use Prim.Native.Nat.{ℕ, ◌+◌, ◌-◌, ◌≤◌, ◌<◌}
use native.Mathlib.Omega.{arith}
use mathlib.Core.Path.{◌≡◌, refl, sym, ap, ◌∙◌}
use mathlib.Core.Bool.{Bool, true, false, cond, not, ◌&&◌, ◌||◌, or-true, and-eq-true_iff}
use mathlib.Core.List.{List, [], ◌++◌, append_assoc, append-nil}
use lib.Dec.{ltb}
use lib.ListN.{length, take, drop, length-drop}
use lib.Seq.{length-take-le}
use borrow.Author.Tests.{ltb-true, not-true}
use Rattle.lists.proofs.Tests.{or-false-of}
use Rattle.requests.specs.Framing.{holds_request}
use Rattle.requests.specs.Run.{Session, next_step, next_line, next_session, lines_from, lines_of, run_of, first_session, read_on}
use Rattle.requests.proofs.Frames.{request-heads}
use Rattle.requests.proofs.Sessions.{line-by-line, line-ahead}
use Rattle.node_run.specs.declared.Run.{Run}
use Rattle.node_run.specs.Buffers.{held, session_of, pending_lines, Fits, last_ordinal, goes_on, flushed, stopped}
use Rattle.node_run.specs.Turns.{Ready, Answered, Turned, Printed, Finished}

abbrev with_rest : Session → List ℕ → Session
with_rest s b = record { node = s.node; ordinal = s.ordinal; rest = b }

-- read on twice, and not at all
read_twice : (s : Session) (a b : List ℕ) → read_on (read_on s a) b ≡ read_on s (a ++ b)
read_twice s a b = ap (with_rest s) (append_assoc s.rest a b)

read_none : (s : Session) → read_on s [] ≡ s
read_none s = ap (with_rest s) (append-nil s.rest)

-- the line of a request that is held whole, or with nothing behind it
next-lines : (s : Session) (more : List ℕ) (exhausted : Bool) → 1 ≤ length s.rest
    → (exhausted ≡ false → holds_request s.rest ≡ true) → (exhausted ≡ true → more ≡ [])
    → lines_of (read_on s more) ≡ next_line s ++ cond (next_step s).ends [] (lines_of (read_on (next_session s) more))
next-lines s more true some whole none =
    let now = ap (read_on s) (none refl) ∙ read_none s in
    let after = ap (read_on (next_session s)) (none refl) ∙ read_none (next_session s) in
    ap lines_of now ∙ line-by-line s some ∙ ap (λ (x : Session). next_line s ++ cond (next_step s).ends [] (lines_of x)) (sym after)
next-lines s more false some whole none = line-ahead s more (whole refl)

module _ (r : Run) (input output : List ℕ) (goes : r.ends ≡ false) (p : Printed r input output) where
  printed-ready : (m : Run) (input' : List ℕ) → Ready r input output m input' → Printed m input' output
  printed-ready m input' h = record {
    read = p.read ++ h.more;
    written = p.written ++ h.handed;
    lines = λ more none.
        let nothing : r.exhausted ≡ true → h.more ++ more ≡ [] = λ d. rw (h.once d).1 (none (h.once d).0) in
        let old = rw goes at (p.lines (h.more ++ more) nothing) in
        let session = ap (λ (x : Session). read_on x more) h.session ∙ read_twice (session_of r input) h.more more in
        let lines = append_assoc p.written h.handed (pending_lines m output) ∙ ap (λ (l : List ℕ). p.written ++ l) (sym h.lines) in
        rw (h.ends ∙ goes) (ap run_of (append_assoc p.read h.more more) ∙ old
        ∙ ap (λ (x : Session). (p.written ++ pending_lines r output) ++ lines_of x) (sym session)
        ∙ ap (λ (l : List ℕ). l ++ lines_of (read_on (session_of m input') more)) (sym lines));
  }

  printed-answered : (r' : Run) (output' : List ℕ) → 1 ≤ length (held r input) → (r.exhausted ≡ false → holds_request (held r input) ≡ true)
      → Answered r input output r' output' → Printed r' input output'
  printed-answered r' output' some whole h = record {
    read = p.read;
    written = p.written;
    lines = λ more none.
        let s = session_of r input in
        let w = p.written in
        let nothing : r.exhausted ≡ true → more ≡ [] = λ d. none (h.exhausted ∙ d) in
        let old = rw goes at (p.lines more nothing) in
        let rest = cond (next_step s).ends [] (lines_of (read_on (next_session s) more)) in
        old
        ∙ ap (λ (l : List ℕ). (w ++ pending_lines r output) ++ l) (next-lines s more r.exhausted some whole nothing)
        ∙ sym (append_assoc (w ++ pending_lines r output) (next_line s) rest)
        ∙ ap (λ (l : List ℕ). l ++ rest) (append_assoc w (pending_lines r output) (next_line s) ∙ ap (λ (l : List ℕ). w ++ l) (sym h.lines))
        ∙ ap (λ (d : Bool). (w ++ pending_lines r' output') ++ cond d [] (lines_of (read_on (next_session s) more))) (sym h.ends)
        ∙ ap (λ (x : Session). (w ++ pending_lines r' output') ++ cond r'.ends [] (lines_of (read_on x more))) (sym h.session);
  }

  printed-stopped : r.from ≡ r.to → (r.exhausted ≡ false → holds_request (held r input) ≡ true) → Printed (stopped r) input output
  unfolding lines_from
  printed-stopped e whole =
      let none : r.to - r.from ≡ 0 = omega arith in
      let none-held : held r input ≡ [] = ap (λ (k : ℕ). take k (drop r.from input)) none in
      let exhausted : r.exhausted ≡ true = at r.exhausted refl none-held in
      record {
        read = p.read;
        written = p.written;
        lines = λ more none.
            let nothing : held r input ++ more ≡ [] = rw (none-held, none exhausted) refl in
            let old = rw goes at (p.lines more none) in
            old ∙ ap (λ (l : List ℕ). (p.written ++ pending_lines r output) ++ lines_of (with_rest (session_of r input) l)) nothing;
      }
    where
      at : (d : Bool) → r.exhausted ≡ d → held r input ≡ [] → r.exhausted ≡ true
      at true f n = f
      at false f n = absurd (let h = request-heads (held r input) (whole f) in let k = ap length n in omega arith)

-- nothing is read yet
pub printed-none : (r : Run) (input output : List ℕ) → session_of r input ≡ first_session [] → r.pending ≡ 0 → r.ends ≡ false
    → Printed r input output
printed-none r input output s n e = record {
  read = [];
  written = [];
  lines = λ more _. rw (n, e) (ap (λ (x : Session). lines_of (read_on x more)) (sym s));
}

pub printed-turn : (r : Run) (input output : List ℕ) (r' : Run) (input' output' : List ℕ) → r.ends ≡ false → Printed r input output
    → Turned r input output r' input' output' → Printed r' input' output'
printed-turn r input output r' input' output' goes p (Turned.answers m h less a) =
    let some : 1 ≤ length (held m input') =
    rw (length-take-le (m.to - m.from) (drop m.from input') (rw length-drop (let b = h.fits.1.0 in omega arith))) (omega arith) in
    printed-answered m input' output (h.ends ∙ goes) (printed-ready r input output goes p m input' h) r' output' some h.whole a
printed-turn r input output r' input' output' goes p (Turned.stops m h e same out) =
    rw (same, out) (printed-stopped m input' output (h.ends ∙ goes) (printed-ready r input output goes p m input' h) e h.whole)
printed-turn r input output r' input' output' goes p (Turned.fails m h f same out) =
    rw (same, out) (printed-ready r input output goes p m input' h)

-- ---- the loop

-- a bound of the turns that are left
abbrev pub left : Run → ℕ
left r = last_ordinal - r.ordinal + cond (r.ends || r.failed) 0 1

pub turn-fits : (r : Run) (input output : List ℕ) (r' : Run) (input' output' : List ℕ) → Turned r input output r' input' output'
    → Fits 0 r' (length input') (length output')
turn-fits r input output r' input' output' (Turned.answers m h less a) = a.fits
turn-fits r input output r' input' output' (Turned.stops m h e same out) =
    let f = h.fits in rw (same, out) (f.0, (f.1.0, omega arith))
turn-fits r input output r' input' output' (Turned.fails m h e same out) =
    let f = h.fits in rw (same, out) (f.0, (f.1.0, omega arith))

pub goes_on_lem : (r : Run) → goes_on r ≡ true → ((r.ends ≡ false) × (r.failed ≡ false)) × (r.ordinal < last_ordinal)
goes_on_lem r e =
    let t = simp and-eq-true_iff at e in
    (or-false-of r.ends r.failed (not-true _ t.0), ltb-true _ _ t.1)

one_at_most : (b : Bool) → cond b 0 1 ≤ 1
one_at_most true = omega arith
one_at_most false = omega arith

pub turn-less : (r : Run) (input output : List ℕ) (r' : Run) (input' output' : List ℕ) → goes_on r ≡ true
    → Turned r input output r' input' output' → left r' < left r
turn-less r input output r' input' output' e t =
    let g = goes_on_lem r e in
    let before : left r ≡ last_ordinal - r.ordinal + 1 = rw (g.0.0, g.0.1) refl in
    rw before (at g.1 t)
  where
    same-ordinal : (m : Run) → Ready r input output m input' → m.ordinal ≡ r.ordinal
    same-ordinal m h = ap (λ (s : Session). s.ordinal) h.session

    at : r.ordinal < last_ordinal → Turned r input output r' input' output' → left r' < last_ordinal - r.ordinal + 1
    at g (Turned.answers m h less a) =
        let o = same-ordinal m h in
        let n : r'.ordinal ≡ m.ordinal + 1 = ap (λ (s : Session). s.ordinal) a.session in
        omega (arith, one_at_most (r'.ends || r'.failed))
    at g (Turned.stops m h f same out) = rw same (let o = same-ordinal m h in omega arith)
    at g (Turned.fails m h f same out) =
        let o = same-ordinal m h in
        rw (same, f, or-true m.ends) (omega arith)

-- The lines that are left pending are written, and the run does not go on.
module _ (r : Run) (input output : List ℕ) (failed : Bool) where
  still-stops : goes_on r ≡ false → (r.failed ≡ true → failed ≡ true) → goes_on (flushed r failed) ≡ false
  still-stops = at r.ends r.failed failed
    where
      at : (ends was is : Bool) → (not (ends || was) && ltb r.ordinal last_ordinal) ≡ false → (was ≡ true → is ≡ true)
          → (not (ends || is) && ltb r.ordinal last_ordinal) ≡ false
      at true was is e f = refl
      at false true is e f = rw (f refl) refl
      at false false true e f = refl
      at false false false e f = e

  pub finished : Printed r input output → goes_on r ≡ false → (r.failed ≡ true → failed ≡ true) → Finished (flushed r failed) input
  finished p e f = record {
    read = p.read;
    written = p.written ++ pending_lines r output;
    lines = p.lines;
    stops = still-stops e f;
  }
