use native.Mathlib.Omega.{arith}
use Rattle.page.proofs.Rows.{written_none, room-for-row, written_one, written_all}
use Rattle.page.proofs.lines.put_rows.Goals as goal

pub loop-row-init : goal.loop-row-init
loop-row-init c = written_none _ _ _ _ c.requires

pub put_row-at-requires : goal.put_row-at-requires
put_row-at-requires c =
    let a = c.args in
    room-for-row a.silent a.t a.rows a.out.now c.loop-row.row-index c.loop-row.at c.loop-row.out c.loop-row.invariant _ (omega arith)

pub loop-row-preserved : goal.loop-row-preserved
loop-row-preserved c =
    let a = c.args in
    written_one a.silent a.t a.rows a.out.now c.loop-row.row-index c.loop-row.at c.loop-row.out c.loop-row.invariant _ (omega arith)
    _ _ c.put_row-at.auto.out c.put_row-at.ensures.value c.put_row-at.ensures.value_2 c.put_row-at.ensures.out_after

pub returns : goal.returns
returns c =
    let a = c.args in
    written_all a.silent a.t a.rows a.out.now c.loop-row.row-index c.loop-row.at c.loop-row.out c.loop-row.invariant (omega arith)
