use Rattle.node_run.specs.Turns.{Turned}
use Prim.Native.Nat.{◌<◌}
use native.Mathlib.Omega.{arith}
use mathlib.Core.Path.{refl}
use Rattle.node_run.proofs.turn.Goals as goal

pub returns-then-ready : goal.returns-then-ready
returns-then-ready c =
    let n = c.next_request-ready in
    Turned.fails n.result n.ensures c.if-ready.true refl refl

pub returns-then-ready-2 : goal.returns-then-ready-2
returns-then-ready-2 c =
    let n = c.next_request-ready in
    Turned.stops n.result n.ensures c.if-ready-2.true refl refl

pub returns : goal.returns
returns c =
    let m = c.next_request-ready in
    let fits = m.ensures.fits.0 in
    let left = c.if-ready-2.false in
    let some : m.result.from < m.result.to = omega arith in
    Turned.answers m.result m.ensures some c.answer.ensures
