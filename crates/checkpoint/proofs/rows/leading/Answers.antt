use Rattle.std.proofs.Common.{◌≡◌, ℕ, ◌*◌, arith, sym, ap, ◌∙◌}
use lib.ListN.{drop}
use Rattle.binary.proofs.Rows.{lead-row, last_row, no_lead}
use Rattle.checkpoint.proofs.rows.leading.Goals as goal

pub loop-i-preserved : goal.loop-i-preserved
loop-i-preserved g c =
    let f = g.T.Stored.format in
    let b = c.args.table.now in
    let i = c.loop-i.i in
    let place : c.at-row.result ≡ f.decode (drop (i * f.width) b) =
    c.at-row.ensures ∙ ap (λ (w : ℕ). f.decode (drop (i * w) b)) (c.SIZE.ensures ∙ sym g.met.T.Stored.wide) in
    λ p answers.
    let test = rw (c.from-key.ensures, c.key.ensures, answers _ _ c.passes.ensures) at c.if-lo-key.true in
    let step = lead-row f g.row.N b i g.T.Stored.EMPTY p _ c.loop-i-test.true place g.T.Row.key c.loop-i.lo test in
    rw (c.from-key.ensures, c.key.ensures) (omega (arith, c.loop-i.invariant p answers, step))

pub returns-else-lo-key : goal.returns-else-lo-key
returns-else-lo-key g c =
    let f = g.T.Stored.format in
    let b = c.args.table.now in
    let i = c.loop-i.i in
    let place : c.at-row.result ≡ f.decode (drop (i * f.width) b) =
    c.at-row.ensures ∙ ap (λ (w : ℕ). f.decode (drop (i * w) b)) (c.SIZE.ensures ∙ sym g.met.T.Stored.wide) in
    record {
      leads = λ p answers.
          let test = rw (c.from-key.ensures, c.key.ensures, answers _ _ c.passes.ensures) at c.if-lo-key.false in
          let step = last_row f g.row.N b i g.T.Stored.EMPTY p _ c.loop-i-test.true place g.T.Row.key c.loop-i.lo test in
          omega (arith, c.loop-i.invariant p answers, step);
      within = omega arith;
    }

pub returns-clause-leads : goal.returns-clause-leads
returns-clause-leads g c = λ p answers.
    let end = no_lead g.T.Stored.format g.row.N c.args.table.now c.loop-i.i g.T.Stored.EMPTY p g.T.Row.key c.loop-i.lo c.loop-i-test.false in
    omega (arith, c.loop-i.invariant p answers, end)
