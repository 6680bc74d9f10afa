-- "Old notices lapse": computed deliveries over proposals that have lapsed.
use Rattle.std.specs.Prelude.{◌≡◌, List, [], ◌∷◌, ◌++◌, ℕ, drop, replicate}
use Rattle.state.specs.declared.Proposal.{Proposal}
use Rattle.state.specs.declared.State.{State}
use Rattle.state.specs.Limits.{proposal_rows}
use Rattle.state.specs.Time.{day, cycle}
use Rattle.state.specs.Rows.{no_proposal}
use Rattle.state.specs.Subjects.{removes}
use Rattle.state.specs.Update.{with_time, with_proposals}
use Rattle.records.specs.declared.Action.{Action}
use Rattle.records.specs.declared.Action.TheVariants.{Propose, Remove, Grant, End}
use Rattle.node.specs.Reply.{DeliverReply}
use Rattle.node.specs.DeliverAnswer.{Done, Voted, Refused}
use Rattle.node.specs.Deliver.{deliver_of}
use Rattle.examples.specs.Records.{announce, unvoted, two_votes}
use Rattle.examples.specs.TableOfNo.{first_state, full_proposals, numbered, proposal_of, started}

-- a table of these rows, and unused ones
abbrev pub rows : List Proposal → ℕ → List Proposal
rows used n = used ++ replicate n no_proposal

-- what a node with the 16 proposals, of the days 101 to 116, replies to an action announced on a day, with this sheet
abbrev pub reply : ℕ → Action → List ℕ → DeliverReply
reply d x sheet = deliver_of (started full_proposals) (announce 17 d x) sheet

-- the row of a propose in cycle 17
abbrev pub proposed_on : ℕ → Proposal
proposed_on d = record { cycle = cycle 17; day = day d; subject = removes 0 }

-- login 501, to day 200, with right 0
abbrev pub grants : Action
grants = Grant (record { login = 501; end = day 200; rights = 1 })

-- two proposals to remove seat 0, of the days 101 and 150
abbrev pub twice : List Proposal
twice = proposal_of 1 ∷ record { cycle = cycle 2; day = day 150; subject = removes 0 } ∷ []

abbrev pub proposed_twice : State
proposed_twice = with_time (cycle 3) (day 150) (with_proposals (rows twice 14) first_state)

pub record LapseExamples : Type 0 where
  -- the first has lapsed: the others move up, and the new one follows
  pub one-lapsed : (reply 162 (Propose (removes 0)) two_votes).node.state.proposals
      ≡ drop 1 (numbered proposal_of proposal_rows) ++ (proposed_on 162 ∷ [])
  -- all have lapsed
  pub all-lapsed : (reply 177 (Propose (removes 0)) two_votes).answer ≡ Done
  pub one_left : (reply 177 (Propose (removes 0)) two_votes).node.state.proposals ≡ rows (proposed_on 177 ∷ []) 15
  -- an action that has nothing to do with proposals drops them too
  pub granted : (reply 177 grants two_votes).answer ≡ Done
  pub none_left : (reply 177 grants two_votes).node.state.proposals ≡ rows [] proposal_rows
  -- a vote and a refusal keep them
  pub voted : (reply 177 grants unvoted).answer ≡ Voted
  pub kept-by-vote : (reply 177 grants unvoted).node.state.proposals ≡ full_proposals.proposals
  pub refused : (reply 177 (End 7) two_votes).answer ≡ Refused 13
  pub kept-by-refusal : (reply 177 (End 7) two_votes).node.state.proposals ≡ full_proposals.proposals
  -- a lapsed proposal before a mature one of the same subject: the mature one is used, and both are gone
  pub removed : (deliver_of (started proposed_twice) (announce 3 170 (Remove 0)) two_votes).answer ≡ Done
  pub both-gone : (deliver_of (started proposed_twice) (announce 3 170 (Remove 0)) two_votes).node.state.proposals ≡ rows [] proposal_rows
