use Rattle.std.proofs.Common.{ℕ, ◌*◌, ◌+◌, rules, sym, ap, ◌∙◌}
use lib.ListN.{drop, length-replicate}
use Rattle.binary.proofs.Rows.{read_none, read_one}
use Rattle.checkpoint.proofs.rows.rows_at.Goals as goal

pub loop-i-init : goal.loop-i-init
loop-i-init g c = read_none g.T.Stored.format g.row.N _ _ (length-replicate _ _)

pub loop-i-preserved : goal.loop-i-preserved
loop-i-preserved g c =
    let a = c.args in
    read_one g.T.Stored.format g.row.N a.b.now a.at c.loop-i.i c.loop-i.rows _ c.loop-i.invariant (search rules)
    (c.at.ensures ∙ ap (λ (w : ℕ). g.T.Stored.format.decode (drop (a.at + c.loop-i.i * w) a.b.now)) (c.SIZE.ensures ∙ sym g.met.T.Stored.wide))
