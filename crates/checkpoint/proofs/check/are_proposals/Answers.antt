use Rattle.std.proofs.Common.{rules}
use Rattle.state.specs.WellFormed.{is_intended, are_well_formed_proposals}
use Rattle.checkpoint.specs.Code.{are_proposals}
use Rattle.checkpoint.proofs.check.are_proposals.Goals as goal

pub returns : goal.returns
unfolding are_proposals are_well_formed_proposals
returns c = c.are_rows.ensures (is_intended c.args.c c.args.d) (λ x r k. search rules)
