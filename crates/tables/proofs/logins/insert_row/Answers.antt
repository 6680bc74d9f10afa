use mathlib.Core.Path.{refl, sym, ◌∙◌}
use native.Mathlib.Omega.{arith}
use lib.ListN.{length-set}
use Rattle.std.proofs.Common.{rules}
use Rattle.lists.proofs.Loops.{insert-turn, insert-end}
use Rattle.tables.proofs.logins.insert_row.Goals as goal

pub loop-i-init : goal.loop-i-init
loop-i-init c = (search rules, refl)

pub loop-i-preserved : goal.loop-i-preserved
loop-i-preserved c =
    (simp length-set c.loop-i.invariant.0, insert-turn c.loop-i.next c.loop-i.out c.loop-i.i _ (omega arith) ∙ c.loop-i.invariant.1)

pub returns : goal.returns
returns c = sym (insert-end c.loop-i.next c.loop-i.out c.loop-i.i (omega arith)) ∙ c.loop-i.invariant.1
