use Rattle.node_run.specs.Buffers.{held}
use Rattle.node_run.proofs.Kept.{front-moved}
use Rattle.node_run.proofs.Outcomes.{ready_held, ready-flushed, ready-filled, or-second}
use Rattle.lists.proofs.Tests.{or-false-of}
use Prim.Native.Nat.{◌-◌}
use native.Mathlib.Omega.{arith}
use mathlib.Core.Path.{◌≡◌, sym, ap, ◌∙◌}
use lib.ListN.{length, take, drop, length-drop}
use lib.Seq.{length-take-le}
use Rattle.node_run.proofs.next_request.Goals as goal

pub returns-then-run-output : goal.returns-then-run-output
returns-then-run-output c =
    let a = c.args in
    let e = c.holds_request.ensures in
    ready_held a.run a.input.now a.output.now c.requires.fits
    (λ n. sym e ∙ or-second _ _ c.if-run-holds_request.true n)
    (omega arith)

pub returns-then-run-holds_request : goal.returns-then-run-holds_request
returns-then-run-holds_request c =
    let a = c.args in
    let e = c.holds_request.ensures in
    rw c.flush.ensures.0 (ready-flushed a.run a.input.now a.output.now c.requires.fits
    (λ n. sym e ∙ or-second _ _ c.if-run-holds_request.true n) c.flush.result.failed
    c.requires.request_room_in_bounds.1)

pub returns : goal.returns
returns c =
    let a = c.args in
    let b = a.input.now in
    let n = a.run.to - a.run.from in
    let size : length (held a.run b) ≡ n = length-take-le n (drop a.run.from b) (rw length-drop (omega arith)) in
    let moved = ap (take n) c.shift.ensures ∙ front-moved b (held a.run b) n size in
    rw c.flush-ready.ensures.0
    (ready-filled a.run b a.output.now _ c.flush-ready.result.failed c.read_request-filled.result.to c.read_request-filled.result.exhausted
    c.requires.request_room_in_bounds.1
    (or-false-of _ _ c.if-run-holds_request.false).0
    _ moved c.read_request-filled.ensures)
