-- Which nodes are well formed: "seat 1, life 4 (at least 1), voted flag 1 (0 or 1), voted announcement 24 (zero if none, else well formed and of this
-- cycle), misses 1. The seat isn't free."
use Rattle.std.specs.Prelude.{◌≡◌, ℕ, List, Bool, true, false, cond, not, ◌&&◌, eqb, ltb, leb, Option, Some, None}
use Rattle.lists.specs.Fold.{all}
use Rattle.binary.specs.Number.{Bytes}
use Rattle.binary.specs.Codec.{Codec, byte, number, onto, rows, ◌⊗◌}
use Rattle.state.specs.declared.Cycle.{Cycle}
use Rattle.state.specs.declared.State.{State}
use Rattle.state.specs.Limits.{seat_count}
use Rattle.state.specs.Time.{is_same_cycle}
use Rattle.state.specs.Seats.{free}
use Rattle.state.specs.WellFormed.{is_well_formed}
use Rattle.records.specs.declared.Announcement.{Announcement}
use Rattle.records.specs.Layout.{announcement_size, door_count}
use Rattle.records.specs.Announcement.{read_announcement}
use Rattle.checkpoint.specs.Checkpoint as Checkpoint
use Rattle.verdicts.specs.declared.Own.{Own}
use Rattle.verdicts.specs.declared.AttemptCounts.{AttemptCounts}
use Rattle.verdicts.specs.Own.{held_seat}
use Rattle.verdicts.specs.Attempts.{are_in_range}
use Rattle.node.specs.declared.Node.{Node}
use Rattle.node.specs.StartAnswer.{Started}
use Rattle.node.specs.Start.{start_of}
use Rattle.node.specs.Deliver.{deliver_of}
use Rattle.node.specs.Query.{query_of}

-- the own part and the counts in numbers and bytes
pub record OwnFields : Type 0 where
  pub seat : ℕ
  pub life : ℕ
  pub flag : ℕ
  pub vote : List ℕ
  pub misses : List ℕ

-- seat 1, life 4, voted flag 1, voted announcement 24, misses 1; and "3 bytes at its end, the counts of doors 1 to 3"
abbrev pub own_fields : Codec OwnFields
own_fields =
    onto ((byte ⊗ number 4) ⊗ (byte ⊗ rows byte announcement_size) ⊗ rows byte door_count)
    (λ p. record { seat = p.0.0; life = p.0.1; flag = p.1.0.0; vote = p.1.0.1; misses = p.1.1 })
    (λ o. ((o.seat, o.life), ((o.flag, o.vote), o.misses)))

abbrev pub fields_of : Own → AttemptCounts → OwnFields
fields_of o c = record { seat = o.seat; life = o.life; flag = cond o.voted 1 0; vote = o.vote; misses = c.misses }

abbrev pub own_of : OwnFields → Own
own_of p = record { seat = p.seat; life = p.life; voted = eqb p.flag 1; vote = p.vote }

abbrev pub counts_of : OwnFields → AttemptCounts
counts_of p = record { misses = p.misses }

-- what a Node in memory is: each number within its width, each table and the vote of its length
abbrev pub Fits : Node → Type 0
Fits n = Checkpoint.Fits n.state × own_fields.Fits (fields_of n.own n.counts)

-- a well-formed announcement of this cycle
abbrev pub is_read_in : Cycle → Option Announcement → Bool
is_read_in c None = false
is_read_in c (Some a) = is_same_cycle a.cycle c

-- "zero if none, else well formed and of this cycle"
unfoldable pub is_well_formed_vote : Cycle → Bool → List ℕ → Bool
is_well_formed_vote c voted vote = cond voted (is_read_in c (read_announcement vote)) (all (λ x. eqb x 0) vote)

unfoldable pub is_well_formed_own : State → Own → Bool
is_well_formed_own s o =
    ltb o.seat seat_count
    && (not (eqb (held_seat s o).standing free)
    && (leb 1 o.life
    && is_well_formed_vote s.cycle o.voted o.vote))

-- a node as memory can hold it, with a well-formed state and a well-formed own part, and no count above 10
pub record WellFormedNode (n : Node) : Type 0 where
  pub fits : Fits n
  pub state : is_well_formed n.state ≡ true
  pub own : is_well_formed_own n.state n.own ≡ true
  pub counts : are_in_range n.counts ≡ true

-- ---- no call by value hands back a node that is not well formed

abbrev pub StartMakesWellFormed : Type 0
StartMakesWellFormed = (cb sb : List ℕ) → Bytes cb → Bytes sb → (start_of cb sb).answer ≡ Started → WellFormedNode (start_of cb sb).node

abbrev pub DeliverKeepsWellFormed : Type 0
DeliverKeepsWellFormed = (n : Node) (ab sb : List ℕ) → Bytes ab → WellFormedNode n → WellFormedNode (deliver_of n ab sb).node

abbrev pub QueryKeepsWellFormed : Type 0
QueryKeepsWellFormed = (n : Node) (qb : List ℕ) → WellFormedNode n → WellFormedNode (query_of n qb).node
