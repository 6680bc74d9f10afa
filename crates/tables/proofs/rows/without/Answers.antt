use Rattle.std.proofs.Common.{not, ◌≤◌, ◌<◌, length, rules, arith, sym, ap, ◌∙◌}
use lib.ListN.{length-set}
use Rattle.lists.proofs.Loops.{keep-pass, keep-fail, keep-end}
use Rattle.tables.proofs.rows.without.Goals.{then-not-drops, else-not-drops}
use Rattle.tables.proofs.rows.without.Goals as goal

pub loop-row-preserved : goal.loop-row-preserved
loop-row-preserved g c =
    let rows = c.args.rows in
    let i = c.loop-row.row-index in
    let v = c.loop-row.invariant in
    let h : i < length rows = search rules in
    let m : length rows ≤ g.row.N = search rules in
    elim c.if-not-drops.branch [
      | then-not-drops w ↦ rw (w.out-is, w.j-is) (
        omega (arith, v.0),
        length-set _ _ _ ∙ v.1,
        λ dropped answers. keep-pass (λ r. not (dropped r)) g.row.N g.T.Row.UNUSED rows i c.row-item.result h m _ _ (v.2 dropped answers)
            (ap not (sym (answers _ _ c.drops.ensures) ∙ w.if-not-drops.true)),
      )
      | else-not-drops w ↦ rw (w.out-is, w.j-is) (
        omega (arith, v.0),
        v.1,
        λ dropped answers. keep-fail (λ r. not (dropped r)) g.row.N g.T.Row.UNUSED rows i c.row-item.result h m _ _ (v.2 dropped answers)
            (ap not (sym (answers _ _ c.drops.ensures) ∙ w.if-not-drops.false)),
      )
    ]

pub returns : goal.returns
returns g c =
    λ dropped answers.
    keep-end (λ r. not (dropped r)) g.row.N g.T.Row.UNUSED c.args.rows c.loop-row.row-index c.loop-row.j _ (search rules) (search rules)
    (c.loop-row.invariant.2 dropped answers)
