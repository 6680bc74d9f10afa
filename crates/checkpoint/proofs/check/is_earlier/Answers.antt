use Rattle.binary.proofs.Slices.{part-from}
use Rattle.checkpoint.specs.Layout.{earlier_tables_at}
use Rattle.checkpoint.specs.Format.{earlier}
use Rattle.checkpoint.proofs.Fields.{in-parts, decoded-as}
use Rattle.checkpoint.proofs.check.is_earlier.Goals.{Then-is_record}
use Rattle.checkpoint.proofs.check.is_earlier.Goals as goal

pub returns-then-is_record : goal.returns-then-is_record
returns-then-is_record c =
    let b = c.args.b.now in
    rw (
      in-parts earlier b,
      ← c.is_record.ensures,
      c.if-is_record.true,
      decoded-as earlier b,
      ← c.head_in.ensures,
      ← part-from earlier_tables_at b,
    ) c.is_body.ensures

pub returns-else-is_record : goal.returns-else-is_record
returns-else-is_record c = rw (in-parts earlier c.args.b.now, ← c.is_record.ensures, c.if-is_record.false)
