-- What a checkpoint and deliver's answers do not depend on.
use Rattle.std.specs.Prelude.{◌≡◌, true, ℕ, ◌^◌, ◌/◌, ◌%◌, ◌≤◌, ◌<◌}
use mathlib.Core.List.{List, Memᴰ}
use Rattle.state.specs.declared.State.{State}
use Rattle.state.specs.Seats.{retired}
use Rattle.state.specs.WellFormed.{is_well_formed}
use Rattle.records.specs.Sheet.{Row, is_sheet, level1, level2, rows_of}
use Rattle.checkpoint.specs.Checkpoint.{read_checkpoint}
use Rattle.actions.specs.Perform.{with_standing}
use Rattle.node.specs.declared.Node.{Node}
use Rattle.node.specs.DeliverAnswer.{Done, Refused}
use Rattle.verdicts.specs.Own.{is_halted, own_afresh}
use Rattle.verdicts.specs.Attempts.{no_misses}
use Rattle.node.specs.Deliver.{deliver_of}
use Rattle.node.specs.Query.{query_of}
use Rattle.node.specs.Checkpoint.{checkpoint_of, checkpoint_slice}
use Rattle.node.specs.WellFormed.{is_well_formed_own}
use Rattle.examples.specs.Records.{first_checkpoint, grant_to, two_rows}

-- ---- the state alone

-- Nodes of one state give the same checkpoint, whatever their seats, lives, votes and misses.
abbrev pub CheckpointOfState : Type 0
CheckpointOfState = (n k : Node) → n.state ≡ k.state
    → (out : List ℕ) → ((checkpoint_of n out).answer ≡ (checkpoint_of k out).answer) × (checkpoint_slice n out ≡ checkpoint_slice k out)

-- A query changes neither the state nor the own part, whatever it answers: the counts of misses stand beside them.
abbrev pub QueryKeepsState : Type 0
QueryKeepsState = (n : Node) (qb : List ℕ) → ((query_of n qb).node.state ≡ n.state) × ((query_of n qb).node.own ≡ n.own)

-- the nodes share their state, and are both halted or both running
pub record Alike (n k : Node) : Type 0 where
  pub state : n.state ≡ k.state
  pub halted : is_halted n.state n.own ≡ is_halted k.state k.own

-- Where one such node refuses a deliver by a number from 1 to 14, or performs it, so does the other, with the same number or the same state after it.
pub record RulesOfState : Type 0 where
  pub refuses : (n k : Node) → Alike n k → (ab sb : List ℕ) (j : ℕ) → j ≤ 14 → (deliver_of n ab sb).answer ≡ Refused j → (deliver_of k ab sb).answer
      ≡ Refused j
  pub performs : (n k : Node) → Alike n k → (ab sb : List ℕ) → (deliver_of n ab sb).answer ≡ Done
      → ((deliver_of k ab sb).answer ≡ Done) × ((deliver_of k ab sb).node.state ≡ (deliver_of n ab sb).node.state)

-- A node is alike before and after a query: what a deliver then comes to, as above, and what a checkpoint gives do not depend on it.
abbrev pub QueryKeepsAlike : Type 0
QueryKeepsAlike = (n : Node) (qb : List ℕ) → Alike (query_of n qb).node n

-- Rule 3 is about the own seat, so a halted node and a running one can differ: the first checkpoint's state with seat 2 retired, and nodes at seats 0
-- and 2.
abbrev pub one_retired : State
one_retired = with_standing 2 retired (read_checkpoint first_checkpoint).state

abbrev pub at_seat : ℕ → Node
at_seat i = record { state = one_retired; own = own_afresh i 1; counts = no_misses }

pub record OwnSeatMatters : Type 0 where
  pub well-formed : is_well_formed one_retired ≡ true
  pub own : (is_well_formed_own one_retired (at_seat 0).own ≡ true) × (is_well_formed_own one_retired (at_seat 2).own ≡ true)
  pub running : (deliver_of (at_seat 0) (grant_to 120) (two_rows 0)).answer ≡ Done
  pub halted : (deliver_of (at_seat 2) (grant_to 120) (two_rows 0)).answer ≡ Refused 3

-- ---- the sheet

-- Two sheets with which an announcement is performed lead to the same reply of one node, and to the same state of two nodes that shared their state.
pub record SameQuorum : Type 0 where
  pub reply : (n : Node) (ab sb tb : List ℕ) → (deliver_of n ab sb).answer ≡ Done → (deliver_of n ab tb).answer ≡ Done → deliver_of n ab sb
      ≡ deliver_of n ab tb
  pub state : (n k : Node) → n.state ≡ k.state → (ab sb tb : List ℕ) → (deliver_of n ab sb).answer ≡ Done → (deliver_of k ab tb).answer ≡ Done
      → (deliver_of n ab sb).node.state ≡ (deliver_of k ab tb).node.state

-- every row of one sheet is a row of the other
abbrev pub RowsAmong : List ℕ → List ℕ → Type 0
RowsAmong sb tb = (r : Row) → Memᴰ r (rows_of sb) → Memᴰ r (rows_of tb)

-- two well-formed sheets with the same masks and the same set of rows: the rows may be permuted and repeated
pub record SameRows (sb tb : List ℕ) : Type 0 where
  pub sheets : (is_sheet sb ≡ true) × (is_sheet tb ≡ true)
  pub mask1 : level1 sb ≡ level1 tb
  pub mask2 : level2 sb ≡ level2 tb
  pub there : RowsAmong sb tb
  pub back : RowsAmong tb sb

-- Every node replies alike to such sheets.
abbrev pub OrderOfRowsIsFree : Type 0
OrderOfRowsIsFree = (sb tb : List ℕ) → SameRows sb tb → (n : Node) (ab : List ℕ) → deliver_of n ab sb ≡ deliver_of n ab tb

-- "Trustee i is bit i, lowest bit 0; bits beyond the trustees don't count.": each of n trustees who is on one mask is on the other
abbrev pub TrusteesAmong : ℕ → ℕ → ℕ → Type 0
TrusteesAmong n mask more = (i : ℕ) → i < n → mask / 2 ^ i % 2 ≡ 1 → more / 2 ^ i % 2 ≡ 1

-- for this state the well-formed sheet tb has at least the mask bits and the rows of sb
pub record AtLeast (s : State) (sb tb : List ℕ) : Type 0 where
  pub sheet : is_sheet tb ≡ true
  pub mask1 : TrusteesAmong s.trustees1 (level1 sb) (level1 tb)
  pub mask2 : TrusteesAmong s.trustees2 (level2 sb) (level2 tb)
  pub rows : RowsAmong sb tb

-- More mask bits or rows never turn a performed deliver into anything else.
abbrev pub MoreIsEnough : Type 0
MoreIsEnough = (n : Node) (ab sb tb : List ℕ) → (deliver_of n ab sb).answer ≡ Done → AtLeast n.state sb tb → deliver_of n ab tb ≡ deliver_of n ab sb
