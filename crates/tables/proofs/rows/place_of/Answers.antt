use Rattle.std.proofs.Common.{◌≡◌, ◌<◌, ◌≤◌, length, rules, arith, sym, ◌∙◌}
use Rattle.lists.specs.Code.{index_of}
use Rattle.lists.proofs.Loops.{index-pass, index-fail, index-end}
use Rattle.lists.proofs.Library.{some-place, none-place}
use Rattle.tables.proofs.rows.place_of.Goals as goal

pub returns-then-passes-clause-found : goal.returns-then-passes-clause-found
returns-then-passes-clause-found g c = λ p answers.
    let rows = c.args.rows in
    let i = c.loop-i.i in
    let h : i < length rows = search rules in
    let here = index-pass p rows i _ h (sym (answers _ _ c.passes.ensures) ∙ c.if-passes.true) in
    let place : index_of p rows ≡ i = omega (arith, c.loop-i.invariant p answers, here) in
    sym (some-place p rows i place h)

pub loop-i-preserved : goal.loop-i-preserved
loop-i-preserved g c = λ p answers.
    let rows = c.args.rows in
    let i = c.loop-i.i in
    let h : i < length rows = search rules in
    omega (arith, c.loop-i.invariant p answers, index-fail p rows i _ h (sym (answers _ _ c.passes.ensures) ∙ c.if-passes.false))

pub returns-clause-found : goal.returns-clause-found
returns-clause-found g c = λ p answers.
    let rows = c.args.rows in
    let h : length rows ≤ c.loop-i.i = search rules in
    let past : index_of p rows ≡ length rows = omega (arith, c.loop-i.invariant p answers, index-end p rows c.loop-i.i h) in
    sym (none-place p rows past)
