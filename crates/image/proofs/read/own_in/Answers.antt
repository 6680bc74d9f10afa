use mathlib.Core.Path.{sym}
use Rattle.image.proofs.OwnParts.{own-at}
use Rattle.image.proofs.read.own_in.Goals as goal

pub returns : goal.returns
returns c =
    rw (c.u32_at.ensures, c.vote_at.ensures) (sym (own-at c.args.b.now))
