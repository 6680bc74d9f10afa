use Rattle.std.proofs.Common.{not, rules, tests, sym, ◌∙◌}
use Rattle.lists.proofs.Library.{replace-some, replace-none}
use Rattle.state.specs.declared.Proposal.{Proposal}
use Rattle.state.specs.Rows.{is_proposal}
use Rattle.tables.specs.Proposals.{add_proposal}
use Rattle.tables.proofs.proposals.add_proposal.Goals as goal

pub returns-in-Some : goal.returns-in-Some
unfolding add_proposal
returns-in-Some c =
    let free = λ (r : Proposal). not (is_proposal r) in
    let found = c.place_of.ensures.found free (λ x r k. search (rules, tests)) in
    replace-some free c.args.x c.args.rows c.in-Some.at (sym found ∙ c.in-Some.is)

pub returns-in_default : goal.returns-in_default
unfolding add_proposal
returns-in_default c =
    let free = λ (r : Proposal). not (is_proposal r) in
    let found = c.place_of.ensures.found free (λ x r k. search (rules, tests)) in
    replace-none free c.args.x c.args.rows (sym found ∙ c.in_default.is)
