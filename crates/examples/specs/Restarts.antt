-- "Cooling-off for restarts": computed deliveries of a rejoin.
use Rattle.std.specs.Prelude.{◌≡◌, List, [], ◌∷◌, ℕ, replicate}
use Rattle.state.specs.declared.Proposal.{Proposal}
use Rattle.state.specs.Limits.{proposal_rows}
use Rattle.state.specs.Time.{day, cycle}
use Rattle.state.specs.Seats.{present, seat_at}
use Rattle.state.specs.Rows.{no_proposal}
use Rattle.state.specs.Subjects.{rejoins}
use Rattle.state.specs.Update.{with_time, with_proposals}
use Rattle.records.specs.declared.Action.TheVariants.{Rejoin}
use Rattle.records.specs.Sheet.{sheet_of}
use Rattle.node.specs.declared.Node.{Node}
use Rattle.node.specs.Reply.{DeliverReply}
use Rattle.node.specs.DeliverAnswer.{Done, Voted, Refused}
use Rattle.node.specs.Deliver.{deliver_of}
use Rattle.examples.specs.Records.{announce, vote, unvoted, two_votes}
use Rattle.examples.specs.TableOfNo.{first_state, started, proposed}
use Rattle.examples.specs.Lapse.{rows}

-- what a node replies to a rejoin of seat 1 in cycle 2, where that under life 2 was proposed on day 101: announced on a day, under a life
abbrev pub reply : ℕ → ℕ → List ℕ → DeliverReply
reply d life sheet = deliver_of (proposed (rejoins 1 2) first_state) (announce 2 d (Rejoin 1 life)) sheet

-- two proposals for seat 1, under life 2 and under life 3, in the checkpoint of a start
abbrev pub proposed_under : ℕ → Proposal
proposed_under life = record { cycle = cycle life; day = day 101; subject = rejoins 1 life }

abbrev pub proposed_twice : Node
proposed_twice = started (with_time (cycle 4) (day 101) (with_proposals (rows (proposed_under 2 ∷ proposed_under 3 ∷ []) 14) first_state))

pub record RestartExamples : Type 0 where
  -- "ripe from 2 to 60 days": after 1 day and 2, 60 and 61
  pub after-1 : (reply 102 2 two_votes).answer ≡ Refused 10
  pub after-2 : (reply 103 2 two_votes).answer ≡ Done
  pub after-60 : (reply 161 2 two_votes).answer ≡ Done
  pub after-61 : (reply 162 2 two_votes).answer ≡ Refused 10
  -- the proposal names another life
  pub another-life : (reply 103 3 two_votes).answer ≡ Refused 10
  -- a vote needs the notice too
  pub no-vote : (reply 102 2 unvoted).answer ≡ Refused 10
  pub voted : (reply 103 2 unvoted).answer ≡ Voted
  -- a majority of level 1 is enough; without it 8
  pub level-1 : (reply 103 2 (sheet_of 1 0 (vote 0 ∷ vote 1 ∷ []))).answer ≡ Done
  pub level-2 : (reply 103 2 (sheet_of 0 1 (vote 0 ∷ vote 1 ∷ []))).answer ≡ Refused 8
  -- the seat stays present under its new life, and the proposal is used up
  pub raised : seat_at 1 (reply 103 2 two_votes).node.state.seats ≡ record { standing = present; life = 2 }
  pub used-up : (reply 103 2 two_votes).node.state.proposals ≡ replicate proposal_rows no_proposal
  -- of two proposals for the seat the other stays
  pub one-used : (deliver_of proposed_twice (announce 4 103 (Rejoin 1 2)) two_votes).node.state.proposals ≡ rows (proposed_under 3 ∷ []) 15
