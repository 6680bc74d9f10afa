use Rattle.std.proofs.Common.{ap, ◌∙◌, arith, get_or, ◌-◌}
use Rattle.gf256.specs.Field.{mul, divide}
use Rattle.shares.proofs.Turns.{weigh-none, weigh-turn}
use Rattle.shares.proofs.merging.weigh.Goals as goal

pub loop-i-init : goal.loop-i-init
loop-i-init c = weigh-none c.args.x c.args.numbers.now c.args.weights.now c.requires

pub loop-i-preserved : goal.loop-i-preserved
loop-i-preserved c =
    let l = c.loop-i in
    let a = c.args in
    let weight = c.mul-weight.ensures ∙ ap (mul (get_or l.weights (l.i - 1) 0)) (c.divide.ensures ∙ ap (divide a.x) c.sum.ensures) in
    rw c.sum-total.ensures (weigh-turn a.x a.numbers.now a.weights.now l.i l.weights l.total _ (omega arith) c.requires l.invariant weight)
