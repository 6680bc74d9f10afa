-- The double-voter bound holds by itself where at most 2m seats equivocate: what honest nodes do earns it.
use Rattle.std.specs.Prelude.{◌≡◌, ◌⊎◌, true, ℕ, ◌*◌, ◌≤◌, length}
use mathlib.Core.List.{List, [], ◌∷◌, Memᴰ, map}
use Rattle.std.proofs.Math.Option.{some}
use Rattle.state.specs.declared.State.{State}
use Rattle.state.specs.Seats.{seat_at}
use Rattle.records.specs.declared.Announcement.{Announcement}
use Rattle.records.specs.Sheet.{rows_of, counts}
use Rattle.node.specs.declared.Node.{Node}
use Rattle.examples.specs.Records.{grant_to}
use Rattle.agreement.specs.History.{Host, by_value, Call, start, deliver, History, Moment, moments, node_at, answer, accepted, voted}
use Rattle.agreement.specs.Claims.{◌∈◌, PerformedIn, Park, EquivocationBound, Agreement, Ended}
use Rattle.agreement.specs.Chain.{Step}
use Rattle.records.specs.Sheet.{sheet_of}
use Rattle.assurance.specs.Tight.{first, start_seat, full_sheet}

-- At moment t the node n, at this host, answers voted to the announcement ab.
pub record VotedAt (t : Moment) (host : Host) (n : Node) (ab : List ℕ) : Type 0 where
  pub sheet : List ℕ
  pub out : List ℕ
  pub called : t.call ≡ deliver host ab sheet out
  pub held : node_at t.before host ≡ some n
  pub answered : answer t ≡ voted

-- a vote of this seat under this life for the announcement ab, at moment t of the list and in this cycle
pub record VoteOf (calls : History) (seat life cycle : ℕ) (ab : List ℕ) (t : Moment) : Type 0 where
  pub in_list : t ∈ calls
  pub host : Host
  pub node : Node
  pub voted : VotedAt t host node ab
  pub own-seat : node.own.seat ≡ seat
  pub own-life : node.own.life ≡ life
  pub own-cycle : node.state.cycle.0 ≡ cycle

-- u is a moment of the list, and the predicate holds of every moment before it
pub data Up (P : Moment → Type 0) (u : Moment) : List Moment → Type 0 where
  here : {ms : List Moment} → Up P u (u ∷ ms)
  past : {m : Moment} {ms : List Moment} → P m → Up P u ms → Up P u (m ∷ ms)

-- u comes after t in the list, and the predicate holds of every moment between them
pub data Between (P : Moment → Type 0) (t u : Moment) : List Moment → Type 0 where
  from : {ms : List Moment} → Up P u ms → Between P t u (t ∷ ms)
  later : {m : Moment} {ms : List Moment} → Between P t u ms → Between P t u (m ∷ ms)

-- the moment is no accepted start at this host
abbrev pub NoStart : Host → Moment → Type 0
NoStart h m = (cb sb out : List ℕ) → m.call ≡ start h cb sb out → ¬ (answer m ≡ accepted)

-- The second vote is given at the host of the first, later in the list, and that host is not started between them.
pub record GoesOn {seat life cycle : ℕ} {ab bb : List ℕ} (calls : History) (t u : Moment) (v : VoteOf calls seat life cycle ab t)
    (w : VoteOf calls seat life cycle bb u) : Type 0 where
  pub host : w.host ≡ v.host
  pub between : Between (NoStart v.host) t u (moments calls)

-- Any two votes of this seat and life in this cycle are one vote, or one goes on from the other: they are not given at two hosts, nor on either side
-- of a start.
abbrev pub Steady : History → ℕ → ℕ → ℕ → Type 0
Steady calls seat life cycle = (ab bb : List ℕ) (t u : Moment) (v : VoteOf calls seat life cycle ab t) (w : VoteOf calls seat life cycle bb u)
    → (t ≡ u) ⊎ (GoesOn calls t u v w ⊎ GoesOn calls u t w v)

-- the seat voted for ab in the list, under this life and in this cycle, and its votes are steady
pub record HonestVote (calls : History) (seat life cycle : ℕ) (ab : List ℕ) : Type 0 where
  pub moment : Moment
  pub vote : VoteOf calls seat life cycle ab moment
  pub steady : Steady calls seat life cycle

-- But for a set of at most 2m seats, each seat that counts on the sheet of a delivery which is performed from the state s gave an honest vote under
-- its listed life and in the cycle of s.
pub record Honest (calls : History) (s : State) : Type 0 where
  pub faulty : List ℕ
  pub few : length faulty ≤ 2 * s.minima.margin
  pub others : (p : PerformedIn calls) → p.state ≡ s → (i : ℕ) → counts (rows_of p.sheet) i (seat_at i s.seats) ≡ true
      → Memᴰ i faulty ⊎ HonestVote calls i (seat_at i s.seats).life s.cycle.0 p.bytes

-- Where that is so in every state from which an announcement is performed, the bound holds, and with it agreement and ended.
abbrev pub Earned : Type 0
Earned = (first : List ℕ) (calls : History) → Park first calls → ((s : State) (a : Announcement) → Step calls s a → Honest calls s)
    → EquivocationBound calls × (Agreement calls × Ended calls)

-- ---- why the votes of an honest seat must be steady: one seat, margin 0, quorum 1 (`first 0` of Tight)

abbrev pub start_at : Host → Call
start_at h = start h (first 0) (start_seat 0) []

-- an announcement with no rows, and with the row of seat 0
abbrev pub asked : Host → ℕ → Call
asked h end = deliver h (grant_to end) (sheet_of 1 0 []) []

abbrev pub performed : Host → ℕ → Call
performed h end = deliver h (grant_to end) (full_sheet 0) []

-- The host is started again at the same life in the same cycle, and forgets its vote.
abbrev pub restarted : History
restarted =
    let h = by_value 0 in
    start_at h ∷ asked h 120 ∷ start_at h ∷ asked h 121 ∷ performed h 121 ∷ start_at h ∷ performed h 120 ∷ []

-- No host is started again, but two hosts are started at one seat and life: that no seat and life is started twice with a vote in between is not enough.
abbrev pub two_hosts : History
two_hosts =
    let g = by_value 0 in
    let h = by_value 1 in
    start_at g ∷ start_at h ∷ asked g 120 ∷ asked h 121 ∷ performed g 120 ∷ performed h 121 ∷ []

-- Seat 0 under life 1 votes for both announcements in cycle 1, these votes are the rows of the sheets, and the park splits.
pub record Splits (calls : History) (answers : List ℕ) : Type 0 where
  pub park : Park (first 0) calls
  pub answered : map answer (moments calls) ≡ map some answers
  pub rows : rows_of (full_sheet 0) ≡ record { seat = 0; life = 1 } ∷ []
  pub one : (t : Moment) × VoteOf calls 0 1 1 (grant_to 120) t
  pub other : (t : Moment) × VoteOf calls 0 1 1 (grant_to 121) t
  pub splits : ¬ Agreement calls

abbrev pub RestartSplits : Type 0
RestartSplits = Splits restarted (0 ∷ 128 ∷ 0 ∷ 128 ∷ 0 ∷ 0 ∷ 0 ∷ [])

abbrev pub TwoHostsSplit : Type 0
TwoHostsSplit = Splits two_hosts (0 ∷ 0 ∷ 128 ∷ 128 ∷ 0 ∷ 0 ∷ [])
