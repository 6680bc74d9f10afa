use Rattle.binary.proofs.Slices.{part-from}
use Rattle.checkpoint.specs.Layout.{tables_at}
use Rattle.checkpoint.specs.Format.{current}
use Rattle.checkpoint.proofs.Fields.{decoded-as, head-noticed}
use Rattle.checkpoint.proofs.read.current_state_in.Goals as goal

pub returns : goal.returns
returns c =
    let b = c.args.b.now in
    rw (
      decoded-as current b,
      head-noticed b,
      ← c.notices_in.ensures,
      ← c.head_in.ensures,
      ← part-from tables_at b,
    ) c.state_of.ensures
