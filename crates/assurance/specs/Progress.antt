-- In one state, given one announcement to which no number from 1 to 14 applies: every node that may vote and has not voted otherwise votes, and the
-- votes of a quorum make every node of that state that isn't halted perform.
use Rattle.std.specs.Prelude.{◌≡◌, ◌≢◌, ◌⊎◌, true, false, ℕ, ◌≤◌, length, Some}
use mathlib.Core.List.{List, [], Memᴰ, map}
use Rattle.state.specs.declared.State.{State}
use Rattle.state.specs.Seats.{present, retired, seat_at, quorum_of}
use Rattle.lists.specs.Fold.{Distinct}
use Rattle.records.specs.declared.Announcement.{Announcement}
use Rattle.records.specs.Announcement.{read_announcement}
use Rattle.records.specs.Sheet.{Row, is_sheet, level1, level2, rows_of}
use Rattle.actions.specs.Claims.{Admitted}
use Rattle.node.specs.declared.Node.{Node}
use Rattle.node.specs.DeliverAnswer.{Voted}
use Rattle.verdicts.specs.Own.{held_seat}
use Rattle.node.specs.Deliver.{performs, votes, deliver_of}
use Rattle.node.specs.Claims.{MayVote}
use Rattle.node.specs.WellFormed.{WellFormedNode}
use Rattle.records.specs.Sheet.{sheet_of}

-- None of the numbers 1, 2 and 4 to 14 applies in the state s: the bytes ab are read as the announcement a, the sheet sb is well formed, and no later
-- rule refuses. Number 3 is about the node: it is halted.
pub record Unrefused (s : State) (ab sb : List ℕ) (a : Announcement) : Type 0 where
  pub read : read_announcement ab ≡ Some a
  pub sheet : is_sheet sb ≡ true
  pub admitted : Admitted s a (level1 sb) (level2 sb)

-- A node whose seat is present under its listed life, and that has not voted otherwise, votes when the sheet has no rows: `votes n ab` is the answer
-- voted, and the node with ab as its vote.
abbrev pub Votes : Type 0
Votes = (n : Node) (ab sb : List ℕ) (a : Announcement) → Unrefused n.state ab sb a → rows_of sb ≡ []
    → MayVote n → (n.own.voted ≡ false) ⊎ (n.own.vote ≡ ab) → deliver_of n ab sb ≡ votes n ab

-- Among the rows are the votes of a quorum: at least that many seats, no two the same, each present, and each with a row of its listed life.
pub record QuorumOfVotes (s : State) (rows : List Row) : Type 0 where
  pub voters : List ℕ
  pub distinct : Distinct voters
  pub enough : quorum_of s ≤ length voters
  pub standing : (i : ℕ) → Memᴰ i voters → (seat_at i s.seats).standing ≡ present
  pub row : (i : ℕ) → Memᴰ i voters → Memᴰ (record { seat = i; life = (seat_at i s.seats).life }) rows

-- With such rows every node of that state that isn't halted performs: `performs n a` is the answer done, and the node with the state that the action
-- leaves.
abbrev pub Performs : Type 0
Performs = (n : Node) (ab sb : List ℕ) (a : Announcement) → Unrefused n.state ab sb a → QuorumOfVotes n.state (rows_of sb)
    → (held_seat n.state n.own).standing ≢ retired → deliver_of n ab sb ≡ performs n a

-- the row of a node's vote
abbrev pub row_of : Node → Row
row_of n = record { seat = n.own.seat; life = n.own.life }

-- a well-formed node of the state s that answers voted to the announcement ab, with some sheet
pub record Voter (s : State) (ab : List ℕ) (n : Node) : Type 0 where
  pub state : n.state ≡ s
  pub well-formed : WellFormedNode n
  pub sheet : List ℕ
  pub answered : (deliver_of n ab sheet).answer ≡ Voted

-- Both joined: as many nodes of one state as its quorum, at different seats, answer voted. The sheet of their rows, with masks under which no number
-- from 4 to 14 applies, makes every node of that state that isn't halted perform.
abbrev pub VotesPerform : Type 0
VotesPerform = (s : State) (ab sb : List ℕ) (a : Announcement) → Unrefused s ab sb a
    → (voters : List Node) → ((n : Node) → Memᴰ n voters → Voter s ab n) → Distinct (map (λ n. n.own.seat) voters) → quorum_of s ≤ length voters
    → (n : Node) → n.state ≡ s → (held_seat n.state n.own).standing ≢ retired → deliver_of n ab
    (sheet_of (level1 sb) (level2 sb) (map row_of voters)) ≡ performs n a
