use Rattle.std.proofs.Common.{rules, sym, ◌∙◌}
use Rattle.lists.proofs.Loops.{least-turn, least-end}
use Rattle.state.specs.Rows.{no_login}
use Rattle.tables.specs.Logins.{is_earlier, earliest_row}
use Rattle.tables.proofs.logins.earliest_row.Goals as goal

pub loop-row-preserved : goal.loop-row-preserved
loop-row-preserved c =
    rw c.earlier-earliest.ensures
    (c.loop-row.invariant ∙ least-turn is_earlier c.loop-row.earliest c.args.rows c.loop-row.row-index no_login (search rules))

pub returns : goal.returns
unfolding earliest_row
returns c = sym (c.loop-row.invariant ∙ least-end is_earlier c.loop-row.earliest c.args.rows c.loop-row.row-index (search rules))
