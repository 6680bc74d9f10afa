use mathlib.Core.Path.{sym}
use Rattle.image.proofs.OwnParts.{own-tested}
use Rattle.image.proofs.read.is_well_formed_own.Goals as goal

pub returns : goal.returns
returns c =
    let e = rw c.cycle_in-cycle.ensures at c.is_well_formed_vote-voted.ensures in
    rw c.u32_at-life.ensures (sym (own-tested c.args.b.now _ _ c.requires c.standing_in-standing.ensures e))
