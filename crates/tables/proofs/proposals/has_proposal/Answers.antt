use Rattle.std.proofs.Common.{rules}
use Rattle.tables.specs.Proposals.{is_of_cycle, has_proposal}
use Rattle.tables.proofs.proposals.has_proposal.Goals as goal

pub returns : goal.returns
unfolding has_proposal
returns c = c.has_row.ensures (is_of_cycle c.args.c) (λ x r k. search rules)
