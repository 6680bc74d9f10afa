use Rattle.std.proofs.Common.{rules}
use Rattle.tables.specs.Proposals.{is_of_cycle, drop_proposal}
use Rattle.tables.proofs.proposals.drop_proposal.Goals as goal

pub returns : goal.returns
unfolding drop_proposal
returns c = c.without.ensures (is_of_cycle c.args.c) (λ x r k. search rules)
