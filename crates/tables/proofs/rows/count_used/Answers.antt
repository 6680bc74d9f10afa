use Prim.Native.Nat.{◌<◌, ◌≤◌}
use native.Mathlib.Omega.{arith}
use lib.ListN.{length}
use Rattle.std.proofs.Common.{rules}
use Rattle.lists.proofs.Library.{flag-small, flag-counted}
use Rattle.lists.proofs.Loops.{count-end}
use Rattle.tables.proofs.rows.count_used.Goals as goal

pub loop-row-preserved : goal.loop-row-preserved
loop-row-preserved g c =
    let used = g.T.Row.used in
    let rows = c.args.rows in
    let i = c.loop-row.row-index in
    let inside : i < length rows = search rules in
    let small = flag-small c.is_used.result in
    let next = flag-counted used c.row-item.result rows i c.from-n.result inside (rw (← c.is_used.ensures) c.from-n.ensures) in
    (omega (arith, c.from-n.ensures), omega arith)

pub returns : goal.returns
returns g c =
    let past : length c.args.rows ≤ c.loop-row.row-index = search rules in
    omega (arith, count-end g.T.Row.used c.args.rows c.loop-row.row-index past)
