use Rattle.std.proofs.Common.{rules}
use Rattle.tables.specs.Proposals.{is_lapsed, drop_lapsed}
use Rattle.tables.proofs.proposals.drop_lapsed.Goals as goal

pub returns : goal.returns
unfolding drop_lapsed
returns c = c.without.ensures (is_lapsed c.args.announced) (λ x r k. search rules)
