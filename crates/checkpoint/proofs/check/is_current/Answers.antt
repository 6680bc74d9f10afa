use Rattle.binary.proofs.Slices.{part-from}
use Rattle.checkpoint.specs.Layout.{tables_at}
use Rattle.checkpoint.specs.Format.{current}
use Rattle.checkpoint.proofs.Fields.{in-parts, decoded-as, head-noticed}
use Rattle.checkpoint.proofs.check.is_current.Goals.{Then-is_record}
use Rattle.checkpoint.proofs.check.is_current.Goals as goal

pub returns-then-is_record : goal.returns-then-is_record
returns-then-is_record c =
    let b = c.args.b.now in
    rw (
      in-parts current b,
      ← c.is_record.ensures,
      c.if-is_record.true,
      decoded-as current b,
      head-noticed b,
      ← c.notices_in.ensures,
      ← c.head_in.ensures,
      ← part-from tables_at b,
    ) c.is_body.ensures

pub returns-else-is_record : goal.returns-else-is_record
returns-else-is_record c = rw (in-parts current c.args.b.now, ← c.is_record.ensures, c.if-is_record.false)
