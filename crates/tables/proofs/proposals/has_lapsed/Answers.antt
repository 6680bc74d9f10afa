use Rattle.std.proofs.Common.{rules}
use Rattle.tables.specs.Proposals.{is_lapsed}
use Rattle.tables.proofs.proposals.has_lapsed.Goals as goal

pub returns : goal.returns
returns c = c.has_row.ensures (is_lapsed c.args.announced) (λ x r k. search rules)
