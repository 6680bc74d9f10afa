-- "Old notices lapse": which proposals a deliver drops, and which it keeps.
use Rattle.std.specs.Prelude.{◌≡◌, ◌≢◌, true, List, ℕ, ◌≤◌, ◌<◌, length}
use Rattle.state.specs.declared.Proposal.{Proposal}
use Rattle.state.specs.declared.Subject.{Subject}
use Rattle.state.specs.Limits.{proposal_rows}
use Rattle.state.specs.Time.{days_since}
use Rattle.state.specs.Rows.{is_proposal}
use Rattle.state.specs.WellFormed.{is_well_formed}
use Rattle.tables.specs.Proposals.{valid_days, is_lapsed}
use Rattle.records.specs.declared.Announcement.{Announcement}
use Rattle.records.specs.declared.Action.TheVariants.{Propose, Cancel}
use Rattle.records.specs.Sheet.{level1, level2}
use Rattle.rules.specs.Rules.{time_refusal}
use Rattle.actions.specs.Claims.{Admitted, Signed}
use Rattle.node.specs.declared.Node.{Node}
use Rattle.node.specs.DeliverAnswer.{Done}
use Rattle.node.specs.Deliver.{deliver_of}
use Rattle.node.specs.Applies.{deliver, at, number_given, Tries, Announces, Applies}
use Rattle.assurance.specs.Notice.{Listed}

-- After a deliver that is done no proposal is older than 60 days on its day, which is then the agreed day.
abbrev pub DoneLeavesNoneLapsed : Type 0
DoneLeavesNoneLapsed = (n : Node) (ab sb : List ℕ) → (deliver_of n ab sb).answer ≡ Done
    → (r : Proposal) → Listed r (deliver_of n ab sb).node.state → is_proposal r ≡ true
    → days_since (deliver_of n ab sb).node.state.day r.day ≤ valid_days

-- "a refusal drops none", and a vote neither: the state stays whole.
abbrev pub OthersDropNone : Type 0
OthersDropNone = (n : Node) (ab sb : List ℕ) → (deliver_of n ab sb).answer ≢ Done → (deliver_of n ab sb).node.state ≡ n.state

-- A table, full or not, of which a row has lapsed takes a propose: where it is in time and signed, no rule from 4 to 14 applies, so that 11 is never
-- given; and once it is done, its row is listed.
pub record TakesPropose (n : Node) (ab sb : List ℕ) (a : Announcement) (x : Subject) : Type 0 where
  pub admitted : time_refusal n.state.cycle n.state.day a ≡ 0 → Signed n.state (level1 sb) (level2 sb) a.action → Admitted n.state a
      (level1 sb) (level2 sb)
  pub not_full : number_given (at n (deliver ab sb)) ≢ 11
  pub listed : (deliver_of n ab sb).answer ≡ Done
      → Listed (record { cycle = n.state.cycle; day = a.day; subject = x }) (deliver_of n ab sb).node.state

abbrev pub ProposeFindsRoom : Type 0
ProposeFindsRoom = (n : Node) (ab sb : List ℕ) (a : Announcement) (x : Subject) → Announces ab a → a.action ≡ Propose x
    → length n.state.proposals ≡ proposal_rows
    → (r : Proposal) → Listed r n.state → is_lapsed a.day r ≡ true → TakesPropose n ab sb a x

-- "Cancelling a lapsed one meets rule 13.": it applies, and is given where no lower number applies.
pub record CancelMeets13 (n : Node) (ab sb : List ℕ) : Type 0 where
  pub applies : Applies (at n (deliver ab sb)) 13
  pub given : ((j : ℕ) → Tries (at n (deliver ab sb)) j → j < 13 → ¬ Applies (at n (deliver ab sb)) j) → number_given (at n (deliver ab sb)) ≡ 13

abbrev pub LapsedNotCancelled : Type 0
LapsedNotCancelled = (n : Node) (ab sb : List ℕ) (a : Announcement) → Announces ab a → is_well_formed n.state ≡ true
    → (r : Proposal) → a.action ≡ Cancel r.cycle → Listed r n.state → is_lapsed a.day r ≡ true → CancelMeets13 n ab sb
