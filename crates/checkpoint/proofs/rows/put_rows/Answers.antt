use Rattle.std.proofs.Common.{rules, ◌≡◌, ℕ, ◌*◌, length, arith, sym, ap, ◌∙◌}
use Rattle.binary.proofs.Rows.{row_within, written_none, written_one}
use Rattle.checkpoint.proofs.rows.put_rows.Goals as goal

pub loop-i-init : goal.loop-i-init
loop-i-init g c = written_none g.T.Stored.format g.row.N _ _ _

pub loop-i-preserved : goal.loop-i-preserved
loop-i-preserved g c =
    let f = g.T.Stored.format in
    let a = c.args in
    let i = c.loop-i.i in
    let flat : (x : g.row.T.Denot) → length (f.encode x) ≡ f.width = λ x. g.met.T.Stored.long x ∙ sym g.met.T.Stored.wide in
    let wide : c.SIZE.result ≡ f.width = c.SIZE.ensures ∙ sym g.met.T.Stored.wide in
    let room = row_within i g.row.N f.width c.loop-i-test.true in
    let size : g.row.N * f.width ≡ g.row.N * g.T.Stored.SIZE = ap (λ (w : ℕ). g.row.N * w) g.met.T.Stored.wide in
    written_one f flat g.row.N a.rows a.out.now a.at i c.loop-i.out c.put.new.out _ c.loop-i.invariant (search rules) c.loop-i-test.true
    (omega (arith, c.requires)) c.put.auto.out (rw wide at c.put.ensures)
