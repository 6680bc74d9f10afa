use Rattle.checkpoint.proofs.Fields.{parts_at}
use Rattle.checkpoint.proofs.read.state_of.Goals as goal

pub returns : goal.returns
returns c =
    let a = c.args in
    rw (
      parts_at a.head a.b.now,
      ← c.rows_at.ensures,
      ← c.rows_at-2.ensures,
      ← c.rows_at-logins.ensures,
    )
