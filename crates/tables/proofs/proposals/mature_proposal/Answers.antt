use Rattle.std.proofs.Common.{rules}
use Rattle.tables.specs.Proposals.{is_mature, mature_proposal}
use Rattle.tables.proofs.proposals.mature_proposal.Goals as goal

pub returns : goal.returns
unfolding mature_proposal
returns c = c.first_row.ensures (is_mature c.args.notices c.args.subject c.args.announced) (λ x r k. search rules)
