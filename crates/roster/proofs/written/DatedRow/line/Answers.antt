use mathlib.Core.Path.{sym, ap, ◌∙◌}
use lib.ListN.{take}
use lib.Seq.{take_at}
use Rattle.binary.specs.Number.{overwrite}
use Rattle.roster.specs.Roster.{line_of}
use Rattle.roster.proofs.written.DatedRow.line.Goals as goal

pub returns : goal.returns
unfolding overwrite
returns c =
    let put = c.put_line-length in
    ap (take put.result) put.ensures.out_after ∙ take_at (line_of c.args.self.row) _ put.result (sym put.ensures.value)
