use Rattle.decimal.proofs.Stored.{length-below}
use Rattle.decimal.proofs.put_aligned.Goals as goal

pub aligned-requires : goal.aligned-requires
aligned-requires c =
    let q = c.requires in
    rw c.digits_of.ensures (length-below c.args.width c.args.x q.0 q.1.0 q.1.1.0, q.1.0)
