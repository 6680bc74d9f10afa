use Rattle.std.proofs.Common.{◌≡◌, replicate, arith, rules}
use Rattle.shares.specs.Shares.{key_size}
use Rattle.shares.proofs.Tabulated.{row-start, row_step}
use Rattle.shares.proofs.Turns.{sum_up_to, sum-none}
use Rattle.shares.proofs.Steps.{added, all-added}
use Rattle.shares.proofs.merging.put_sum.Goals as goal

pub loop-j-init : goal.loop-j-init
loop-j-init c =
    let zeros : c.fill.new.self ≡ replicate key_size 0 = search rules in
    row-start key_size _ _ zeros (λ b _. sum-none c.args.weights.now c.args.shares.now b)

pub loop-j-preserved : goal.loop-j-preserved
loop-j-preserved c =
    let ws = c.args.weights.now in
    let s = c.args.shares.now in
    let l = c.loop-j in
    row_step key_size l.row _ (sum_up_to ws s l.j) _ _ l.invariant c.add_row.ensures (λ b _ e. added ws s l.j _ b (omega arith) e)

pub returns : goal.returns
returns c = all-added c.args.weights.now c.args.shares.now _ c.loop-j.j (omega arith) c.loop-j.invariant
