-- "The table of no": the example of each row, from 1 to 22; and 23, which the access page adds.
use Rattle.std.specs.Prelude.{◌≡◌, List, [], ◌∷◌, ◌++◌, ℕ, zero, suc, ◌+◌, take, replicate}
use Rattle.state.specs.declared.Subject.{Subject}
use Rattle.state.specs.declared.Proposal.{Proposal}
use Rattle.state.specs.declared.State.{State}
use Rattle.state.specs.Limits.{proposal_rows, login_rows}
use Rattle.state.specs.Time.{day, cycle, last_cycle}
use Rattle.state.specs.Seats.{certified, set_seat}
use Rattle.state.specs.Subjects.{removes, rejoins}
use Rattle.state.specs.Update.{with_time, with_seats, with_proposals, with_logins}
use Rattle.records.specs.declared.Action.TheVariants.{Propose, Cancel, Certify, Remove, Rejoin, End}
use Rattle.records.specs.Sheet.{sheet_of}
use Rattle.checkpoint.specs.Checkpoint.{checkpoint_bytes, read_checkpoint}
use Rattle.node.specs.declared.Node.{Node}
use Rattle.node.specs.DeliverAnswer as Deliver
use Rattle.node.specs.QueryAnswer as Query
use Rattle.node.specs.CheckpointAnswer as Checkpoint
use Rattle.node.specs.PageAnswer as Page
use Rattle.node.specs.Start.{start_of}
use Rattle.node.specs.Deliver.{deliver_of}
use Rattle.node.specs.Query.{query_of}
use Rattle.node.specs.Checkpoint.{checkpoint_of}
use Rattle.node.specs.Page.{page_of}
use Rattle.examples.specs.Records.{first_checkpoint, start_seat0, announce, grant501, vote, unvoted, two_votes, query}

-- ---- states

-- "cycle 1, day 100, one trustee per level, m=0, k=2, S=30, seats 0, 1, 2 present at life 1, lists empty"
abbrev pub first_state : State
first_state = (read_checkpoint first_checkpoint).state

-- with a seat, which was present, certified
abbrev pub certified_seat : ℕ → State
certified_seat i = with_seats (set_seat i certified 1 first_state.seats) first_state

-- with three trustees of each level
abbrev pub three_trustees : State
three_trustees = record {
  cycle = first_state.cycle;
  day = first_state.day;
  trustees1 = 3;
  trustees2 = 3;
  minima = first_state.minima;
  seats = first_state.seats;
  proposals = first_state.proposals;
  logins = first_state.logins;
}

-- f 1, f 2, .., f n
unfoldable pub numbered : {A : Type 0} → (ℕ → A) → ℕ → List A
numbered f zero = []
numbered f (suc n) = numbered f n ++ (f (suc n) ∷ [])

-- 16 proposals, of the cycles 1 to 16 and the days 101 to 116
abbrev pub proposal_of : ℕ → Proposal
proposal_of c = record { cycle = cycle c; day = day (100 + c); subject = removes 0 }

abbrev pub full_proposals : State
full_proposals = with_time (cycle 17) (day 116) (with_proposals (numbered proposal_of proposal_rows) first_state)

-- 64 logins, 1 to 64
abbrev pub full_logins : State
full_logins = with_logins (numbered (λ l. record { login = l; end = day 120; rights = 1 }) login_rows) first_state

-- ---- nodes

-- node 0, life 1, started from the checkpoint of a state
abbrev pub started : State → Node
started s = (start_of (checkpoint_bytes s) start_seat0).node

-- in cycle 2, on agreed day 101, with login 501
abbrev pub granted : Node
granted = (deliver_of (started first_state) (announce 1 101 grant501) two_votes).node

-- in cycle 1, with a vote for that grant
abbrev pub voted : Node
voted = (deliver_of (started first_state) (announce 1 101 grant501) unvoted).node

-- in cycle 2, with a proposal of day 101
abbrev pub proposed : Subject → State → Node
proposed x s = (deliver_of (started s) (announce 1 101 (Propose x)) two_votes).node

-- after k queries for login 0
unfoldable pub after_bad : ℕ → Node
after_bad zero = granted
after_bad (suc k) = (query_of (after_bad k) (query 0 101 0)).node

-- ---- the rows

pub record TableOfNo : Type 0 where
  -- 1 "record other than a sheet, checkpoint or image malformed": "announcement of 23 bytes"
  pub malformed : (deliver_of (started first_state) (take 23 (announce 1 101 grant501)) two_votes).answer ≡ Deliver.Refused 1
  -- 2 "sheet malformed": "row with seat 32"
  pub sheet-malformed : (deliver_of (started first_state) (announce 1 101 grant501) (sheet_of 1 1 (vote 32 ∷ []))).answer ≡ Deliver.Refused 2
  -- 3 "node halted": "query after its seat was removed"
  pub halted : (query_of (deliver_of (proposed (removes 0) first_state) (announce 2 108 (Remove 0)) two_votes).node (query 501 108 0)).answer ≡ Query.Refused 3
  -- 4 "cycle passed": "cycle 1 at a node in 2"
  pub cycle-passed : (deliver_of granted (announce 1 101 grant501) two_votes).answer ≡ Deliver.Refused 4
  -- 5 "cycle not reached": "cycle 3 at a node in 2"
  pub cycle-not-reached : (deliver_of granted (announce 3 101 grant501) two_votes).answer ≡ Deliver.Refused 5
  -- 6 "cycle is 4294967295": "started from such a checkpoint"
  pub last-cycle :
      (deliver_of (started (with_time last_cycle (day 100) first_state)) (announce 4294967295 101 grant501) two_votes).answer ≡ Deliver.Refused 6
  -- 7 "day before agreed day": "99 after 100"
  pub day-before : (deliver_of (started first_state) (announce 1 99 grant501) two_votes).answer ≡ Deliver.Refused 7
  -- 8 "too few trustees": "mask 1 of three"
  pub too-few-trustees : (deliver_of (started three_trustees) (announce 1 101 grant501) two_votes).answer ≡ Deliver.Refused 8
  -- 9 "seat's standing unfit": "certify a present seat"
  pub seat-unfit : (deliver_of (started first_state) (announce 1 101 (Certify 1 1)) two_votes).answer ≡ Deliver.Refused 9
  -- 10 "no ripe proposal": "remove after 6 days"; "ripe from 7 to 60 days": after 7 days, 60 and 61
  pub no-ripe-proposal : (deliver_of (proposed (removes 0) first_state) (announce 2 107 (Remove 0)) two_votes).answer ≡ Deliver.Refused 10
  pub first-ripe-day : (deliver_of (proposed (removes 0) first_state) (announce 2 108 (Remove 0)) two_votes).answer ≡ Deliver.Done
  pub last-ripe-day : (deliver_of (proposed (removes 0) first_state) (announce 2 161 (Remove 0)) two_votes).answer ≡ Deliver.Done
  pub lapsed-proposal : (deliver_of (proposed (removes 0) first_state) (announce 2 162 (Remove 0)) two_votes).answer ≡ Deliver.Refused 10
  -- 11 "table full and the row is needed": "17th proposal, 65th login"; the 17th where the first proposal is 60 days old, and where it is 61
  pub proposals-full : (deliver_of (started full_proposals) (announce 17 116 (Propose (removes 0))) two_votes).answer ≡ Deliver.Refused 11
  pub none-lapsed : (deliver_of (started full_proposals) (announce 17 161 (Propose (removes 0))) two_votes).answer ≡ Deliver.Refused 11
  pub one-lapsed : (deliver_of (started full_proposals) (announce 17 162 (Propose (removes 0))) two_votes).answer ≡ Deliver.Done
  pub logins-full : (deliver_of (started full_logins) (announce 1 101 grant501) two_votes).answer ≡ Deliver.Refused 11
  -- 12 "kind 3, 5 or 6 would leave quorum above p": "remove with p=2, k=2"
  pub quorum-above : (deliver_of (proposed (removes 0) (certified_seat 2)) (announce 2 108 (Remove 0)) two_votes).answer ≡ Deliver.Refused 12
  -- 13 "no such proposal or login": "end of 7 in an empty list"; "Cancelling a lapsed one meets rule 13.": after 60 days and 61
  pub no-such-login : (deliver_of (started first_state) (announce 1 101 (End 7)) two_votes).answer ≡ Deliver.Refused 13
  pub last-day-to-cancel : (deliver_of (proposed (removes 0) first_state) (announce 2 161 (Cancel (cycle 1))) two_votes).answer ≡ Deliver.Done
  pub no-such-proposal : (deliver_of (proposed (removes 0) first_state) (announce 2 162 (Cancel (cycle 1))) two_votes).answer ≡ Deliver.Refused 13
  -- 14 "rejoin life not above the listed": "rejoin with life 1 over 1", once its proposal is mature
  pub life-not-above : (deliver_of (proposed (rejoins 1 1) first_state) (announce 2 103 (Rejoin 1 1)) two_votes).answer ≡ Deliver.Refused 14
  -- 15 "no quorum, and own seat not present or own life not listed": "certified node"
  pub may-not-vote : (deliver_of (started (certified_seat 0)) (announce 1 101 grant501) unvoted).answer ≡ Deliver.Refused 15
  -- 16 "no quorum, and voted for other bytes this cycle": "second announcement"
  pub voted-otherwise : (deliver_of voted (announce 1 102 grant501) unvoted).answer ≡ Deliver.Refused 16
  -- 17 "misses are 10": "11th bad query", at door 0, whose count is 10
  pub locked : (query_of (after_bad 10) (query 0 101 0)).answer ≡ Query.Refused 17
  -- 18 "t minus agreed day above S": "31 over 30"
  pub silent : (query_of granted (query 501 132 0)).answer ≡ Query.Refused 18
  -- 19 "login not listed": "login 0"
  pub not_listed : (query_of granted (query 0 101 0)).answer ≡ Query.Refused 19
  -- 20 "t after end day": "121 over 120"
  pub ended : (query_of granted (query 501 121 0)).answer ≡ Query.Refused 20
  -- 21 "right not held": "right 1 of rights 1"
  pub right-not-held : (query_of granted (query 501 101 1)).answer ≡ Query.Refused 21
  -- 22 "output slice shorter than 1,108 (checkpoint)": "1,107 bytes"; since A7 1,110 and 1,109
  pub slice-too-short : (checkpoint_of (started first_state) (replicate 1109 0)).answer ≡ Checkpoint.Refused 22
  -- 23 "slice shorter than 47 bytes times the logins": 46 bytes for one login, 3,007 for 64
  pub page-too-long : (page_of granted (replicate 46 0)).answer ≡ Page.Refused 23
  pub full-page-too-long : (page_of (started full_logins) (replicate 3007 0)).answer ≡ Page.Refused 23
