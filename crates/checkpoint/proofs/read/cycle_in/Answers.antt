use lib.ListN.{drop}
use Rattle.checkpoint.specs.Layout.{tables_at}
use Rattle.checkpoint.specs.Format.{current}
use Rattle.checkpoint.proofs.Fields.{decoded-as, parts_at}
use Rattle.checkpoint.proofs.read.cycle_in.Goals as goal

pub returns : goal.returns
returns c = let b = c.args.b.now in rw (decoded-as current b, parts_at _ (drop tables_at b), c.u32_at.ensures)
