use Rattle.std.proofs.Common.{rules}
use Rattle.state.specs.WellFormed.{has_rights, are_well_formed_logins}
use Rattle.checkpoint.specs.Code.{are_logins}
use Rattle.checkpoint.proofs.check.are_logins.Goals as goal

pub returns : goal.returns
unfolding are_logins are_well_formed_logins
returns c = c.are_rows.ensures has_rights (λ x r k. search rules)
