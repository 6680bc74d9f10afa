use Rattle.std.proofs.Common.{◌≡◌, ap, ◌∙◌, ℕ, replicate, arith, rules}
use Rattle.shares.specs.Shares.{key_size, tabulate, share_of}
use Rattle.shares.proofs.Tabulated.{row-start, row_step}
use Rattle.shares.proofs.Steps.{value_from, value_none, value-turn, value-end}
use Rattle.shares.proofs.splitting.Polynomials.put_share.Goals as goal

pub loop-i-init : goal.loop-i-init
loop-i-init c =
    let p = c.args.self.now in
    let zeros : c.fill.new.self ≡ replicate key_size 0 = search rules in
    row-start key_size _ _ zeros (value_none p.needed c.args.x p.key.now p.coefficients.now p.coefficients_long)

pub loop-i-preserved : goal.loop-i-preserved
loop-i-preserved c =
    let p = c.args.self.now in
    let l = c.loop-i in
    row_step key_size l.row _ (value_from p.needed c.args.x p.coefficients.now l.i) _ _ l.invariant c.step_row.ensures
    (λ b h e. value-turn p.needed c.args.x p.key.now p.coefficients.now p.coefficients_long l.i _ _ b (omega arith) (omega arith) h e)

pub returns : goal.returns
unfolding share_of
returns c =
    let p = c.args.self.now in
    let l = c.loop-i in
    let done : l.i ≡ 0 = omega arith in
    let value = value_from p.needed c.args.x p.coefficients.now in
    row_step key_size l.row _ (value 0) _ _ (l.invariant ∙ ap (λ (i : ℕ). tabulate key_size (value i)) done) c.step_row-2.ensures
    (λ b h e. value-end p.needed c.args.x p.key.now p.coefficients.now p.coefficients_long _ b e)
