use mathlib.Core.Path.{sym}
use Rattle.image.proofs.OwnParts.{counts-at}
use Rattle.image.proofs.read.counts_in.Goals as goal

pub returns : goal.returns
returns c = sym (counts-at c.args.b.now)
