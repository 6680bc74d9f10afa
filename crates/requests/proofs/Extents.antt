-- A step uses no more bytes than there are, and a line fits its room.
use mathlib.Core.Path.{◌≡◌, refl, subst, sym}
use mathlib.Core.Bool.{false, true≢false}
use mathlib.Core.List.{List}
use Prim.Native.Nat.{ℕ, ◌+◌, ◌-◌, ◌≤◌}
use native.Mathlib.Omega.{arith}
use lib.ListN.{length, take, drop, length-append, length-drop}
use lib.Seq.{length-take-le}
use Rattle.node.specs.declared.Node.{Node}
use Rattle.node.specs.StartAnswer.{StartAnswer}
use Rattle.node.specs.StartAnswer as S
use Rattle.node.specs.Start.{start_of}
use Rattle.requests.specs.declared.Answer.{Answer}
use Rattle.requests.specs.declared.Step.{Step}
use Rattle.requests.specs.Requests.{start_step, step_of}
use Rattle.requests.specs.Lines.{line_room, line_of}
use Rattle.requests.proofs.Outcomes.{Whole, step-cases}
use Rattle.decimal.proofs.Stored.{length-decimal}
use Rattle.requests.proofs.Writing.{length-word}

start-uses : (n m : Node) (used : ℕ) (a : StartAnswer) → (start_step n used m a).used ≡ used
start-uses n m used S.Started = refl
start-uses n m used (S.Refused k) = refl

pub used-fits : (n : Node) (b : List ℕ) → (step_of n b).used ≤ length b
used-fits n b =
    step-cases n b (λ s. s.used ≤ length b) (omega arith)
    (λ used cb sb w. let r = start_of cb sb in subst (λ (u : ℕ). u ≤ length b) (sym (start-uses n r.node used r.answer)) w.fits)
    (λ used ab sb w. w.fits)
    (λ used qb w. w.fits)

-- a step that does not end the run uses a whole request
pub step-whole : (n : Node) (b : List ℕ) → (step_of n b).ends ≡ false → Whole b (step_of n b).used
step-whole n b =
    step-cases n b (λ s. s.ends ≡ false → Whole b s.used) (λ e. absurd (true≢false e))
    (λ used cb sb w _. let r = start_of cb sb in subst (Whole b) (sym (start-uses n r.node used r.answer)) w)
    (λ used ab sb w _. w)
    (λ used qb w _. w)

pub length-line : (ordinal : ℕ) (a : Answer) (cycle : ℕ) → length (line_of ordinal a cycle) ≤ line_room
unfolding line_of
length-line ordinal a cycle =
    rw (length-append, length-append, length-append) (omega (arith, length-decimal ordinal, length-word a, length-decimal cycle))

-- ---- as a caller with buffers uses them

-- the step on the bytes of a buffer from one index up to another
pub used-in : (n : Node) (buffer : List ℕ) (from to : ℕ) (s : Step) → from ≤ to → to ≤ length buffer
    → s ≡ step_of n (take (to - from) (drop from buffer)) → from + s.used ≤ to
used-in n buffer from to s h k e =
    let size : length (take (to - from) (drop from buffer)) ≡ to - from = length-take-le _ _ (rw (length-drop from buffer) (omega arith)) in
    let u : s.used ≤ to - from = rw e (rw size at (used-fits n (take (to - from) (drop from buffer)))) in
    omega arith

-- the line written at an index
pub line-ends : (at end ordinal : ℕ) (a : Answer) (cycle : ℕ) → end ≡ at + length (line_of ordinal a cycle) → end ≤ at + line_room
line-ends at end ordinal a cycle e = omega (arith, length-line ordinal a cycle)
