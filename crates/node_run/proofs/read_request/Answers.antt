use Rattle.binary.specs.Number.{Bytes}
use Rattle.node_run.proofs.Kept.{shorter-front}
use Rattle.node_run.proofs.Outcomes.{has_room}
use Prim.Native.Nat.{◌≤◌}
use native.Mathlib.Nat.{sub-zero}
use native.Mathlib.Omega.{arith}
use mathlib.Core.Path.{sym, ◌∙◌}
use mathlib.Core.Bool.{true≢false}
use lib.ListN.{length}
use Rattle.node_run.proofs.read_request.Goals as goal

pub returns-then-more-to : goal.returns-then-more-to
returns-then-more-to c =
    let l = c.loop-stdin in
    let m = c.read_more-more in
    let bytes : Bytes m.new.input = λ i. omega (arith, c.slice_known-in-loop-stdin-1.given i) in
    let short = sym (rw sub-zero at c.holds_request.ensures) ∙ c.loop-stdin-test.true in
    let kept = shorter-front _ _ _ _ l.invariant.1.0 m.ensures.1.1 ∙ l.invariant.1.1.1 in
    let fits : l.to ≤ length m.new.input = omega arith in
    record {
      further = l.invariant.1.0;
      fits = fits;
      kept = kept;
      whole = λ e. absurd (true≢false e);
      room = λ _. has_room l.to l.input m.new.input bytes (omega (arith, c.requires.1)) m.ensures.1.1 short;
    }

pub returns : goal.returns
returns c =
    let v = c.loop-stdin.invariant in
    record {
      further = v.1.0;
      fits = v.1.1.0;
      kept = v.1.1.1;
      whole = λ _. sym (rw sub-zero at c.holds_request.ensures) ∙ c.loop-stdin-test.false;
      room = λ e. absurd (true≢false (sym e));
    }
