use Rattle.refusals.proofs.Table.{numbered}
use Rattle.refusals.proofs.Refusal.number.Goals as goal

pub returns : goal.returns
returns c = numbered c.args.self
