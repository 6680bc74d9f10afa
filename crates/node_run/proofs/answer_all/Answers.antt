use Rattle.node_run.proofs.Printing.{printed-none, printed-turn, finished, turn-fits, turn-less, goes_on_lem}
use Rattle.node.specs.declared.Node.{Node}
use Rattle.requests.specs.Run.{Session}
use native.Mathlib.Omega.{arith}
use mathlib.Core.Path.{refl, ap, ◌∙◌}
use mathlib.Core.List.{[]}
use Rattle.node_run.proofs.answer_all.Goals as goal

pub loop-run-init : goal.loop-run-init
loop-run-init c =
    let n = c.blank_node.ensures in
    let first = ap (λ (m : Node). let s : Session = record { node = m; ordinal = 1; rest = [] } in s) n in
    (refl, (refl, ((omega arith, (omega arith, omega arith)), printed-none _ _ _ first refl refl)))

pub loop-run-smaller : goal.loop-run-smaller
loop-run-smaller c =
    turn-less _ _ _ _ _ _ c.loop-run-test.true c.turn-run.ensures

pub loop-run-preserved : goal.loop-run-preserved
loop-run-preserved c =
    let l = c.loop-run in
    let v = l.invariant in
    let k = c.turn-run.auto in
    let e = c.turn-run.ensures in
    (k.input ∙ v.0, (k.output ∙ v.1.0, (turn-fits _ _ _ _ _ _ e, printed-turn _ _ _ _ _ _ (goes_on_lem l.run c.loop-run-test.true).0.0 v.1.1.1 e)))

pub returns : goal.returns
returns c =
    let l = c.loop-run in
    let f = c.flush.ensures in
    rw f.0 (finished l.run l.input l.output c.flush.result.failed l.invariant.1.1.1 c.loop-run-test.false f.1)
