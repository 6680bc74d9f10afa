use Rattle.std.proofs.Common.{◌<◌, length, rules, sym, ◌∙◌}
use Rattle.lists.proofs.Loops.{first-pass, first-fail, first-end}
use Rattle.tables.proofs.rows.first_row.Goals as goal

pub returns-then-passes : goal.returns-then-passes
returns-then-passes g c = λ p answers.
    let rows = c.args.rows in
    let h : c.loop-row.row-index < length rows = search rules in
    sym (c.loop-row.invariant p answers ∙ first-pass p rows c.loop-row.row-index c.row-item.result h g.T.Row.UNUSED
    (sym (answers _ _ c.passes.ensures) ∙ c.if-passes.true))

pub loop-row-preserved : goal.loop-row-preserved
loop-row-preserved g c = λ p answers.
    let rows = c.args.rows in
    let h : c.loop-row.row-index < length rows = search rules in
    c.loop-row.invariant p answers ∙ first-fail p rows c.loop-row.row-index c.row-item.result h g.T.Row.UNUSED
    (sym (answers _ _ c.passes.ensures) ∙ c.if-passes.false)

pub returns : goal.returns
returns g c = λ p answers.
    c.UNUSED.ensures ∙ sym (c.loop-row.invariant p answers ∙ first-end p c.args.rows c.loop-row.row-index (search rules) g.T.Row.UNUSED)
