use mathlib.Core.Path.{sym, ap, ◌∙◌}
use mathlib.Core.Bool.{Bool, ◌&&◌, and_assoc, and-true}
use borrow.Author.Rules.{rules}
use Rattle.lists.proofs.Loops.{all-turn, all_end}
use Rattle.binary.specs.Number.{is_zero_from}
use Rattle.binary.proofs.is_zero_from.Goals as goal

pub loop-i-preserved : goal.loop-i-preserved
loop-i-preserved c =
    let turn = all-turn _ c.args.b.now c.loop-i.i 0 (search rules) in
    c.loop-i.invariant ∙ ap (λ (t : Bool). c.loop-i.zero && t) turn ∙ sym (and_assoc c.loop-i.zero _ _)

pub returns : goal.returns
unfolding is_zero_from
returns c =
    sym (c.loop-i.invariant ∙ rw (all_end _ c.args.b.now c.loop-i.i (search rules)) (and-true c.loop-i.zero))
