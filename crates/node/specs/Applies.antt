-- "The table of no": when each number applies to a call by value, which numbers a call tries, and that it gives the lowest of them that applies.
use Rattle.std.specs.Prelude.{◌≡◌, ◌≢◌, ◌⊎◌, true, false, ℕ, ◌*◌, ◌≤◌, ◌<◌, length, Some, None}
use mathlib.Core.List.{List, Memᴰ}
use Rattle.state.specs.declared.Seat.{Seat}
use Rattle.state.specs.declared.Login.{Login}
use Rattle.state.specs.declared.Cycle.{Cycle}
use Rattle.state.specs.declared.Day.{Day}
use Rattle.state.specs.declared.Subject.{Subject}
use Rattle.state.specs.declared.Proposal.{Proposal}
use Rattle.state.specs.Time.{later_day, days_since, last_cycle, DayBefore, CycleBefore}
use Rattle.state.specs.Seats.{free, certified, present, retired, seat_at, present_seats, quorum_of}
use Rattle.state.specs.Rows.{holds_right}
use Rattle.tables.specs.Proposals.{proposals_full, has_proposal, drop_lapsed}
use Rattle.tables.specs.Logins.{is_listed, find_login}
use Rattle.tables.specs.Claims.{IsNotice, NoRowFor}
use Rattle.records.specs.declared.Announcement.{Announcement}
use Rattle.records.specs.declared.Action.TheVariants.{Propose, Cancel, Presents, Certify, Remove, Rejoin, Grant, End}
use Rattle.records.specs.declared.Query.{Query}
use Rattle.records.specs.declared.Start.{Start}
use Rattle.records.specs.Actions.{kind_of, level_of, subject_of}
use Rattle.records.specs.Announcement.{read_announcement}
use Rattle.records.specs.Sheet.{is_sheet, level1, level2, rows_of, counted_seats}
use Rattle.records.specs.StartQuery.{read_query, read_start}
use Rattle.page.specs.Layout.{line_size}
use Rattle.page.specs.Page.{line_count}
use Rattle.checkpoint.specs.Layout.{checkpoint_size}
use Rattle.checkpoint.specs.Checkpoint.{is_checkpoint, read_checkpoint}
use Rattle.rules.specs.Rules.{is_signed}
use Rattle.actions.specs.Perform.{perform}
use Rattle.verdicts.specs.Own.{held_seat}
use Rattle.verdicts.specs.Attempts.{most_misses, misses_at}
use Rattle.node.specs.declared.Node.{Node}
use Rattle.node.specs.Answers.{start_number, deliver_number, query_number, checkpoint_number, page_number}
use Rattle.node.specs.Start.{start_of}
use Rattle.node.specs.Deliver.{deliver_of}
use Rattle.node.specs.Query.{query_of}
use Rattle.node.specs.Checkpoint.{checkpoint_of}
use Rattle.node.specs.Page.{page_of}

-- ---- the calls

-- what a node is asked: the records' bytes, or the output slice
pub data Call : Type 0 where
  deliver : (announcement sheet : List ℕ) → Call
  query : (query : List ℕ) → Call
  checkpoint : (out : List ℕ) → Call
  page : (given : Day) (out : List ℕ) → Call

-- a call by value, with all that it is handed
pub data Asked : Type 0 where
  start : (checkpoint start : List ℕ) → Asked
  at : Node → Call → Asked

-- the number that it answers: 0 for started, done, open and given, 128 for voted
abbrev pub number_given : Asked → ℕ
number_given (start cb sb) = start_number (start_of cb sb).answer
number_given (at n (deliver ab sb)) = deliver_number (deliver_of n ab sb).answer
number_given (at n (query qb)) = query_number (query_of n qb).answer
number_given (at n (checkpoint out)) = checkpoint_number (checkpoint_of n out).answer
number_given (at n (page given out)) = page_number (page_of n out).answer

-- "Start tries 1, 9 and 14; deliver 1 to 16; query 1, 3 and 17 to 21; checkpoint 1. Calls that write a slice also try 22, straight after 1 and 2.":
-- by value that is checkpoint alone, and 1 never applies to it, for its node is a value and no image
abbrev pub Tries : Asked → ℕ → Type 0
Tries (start cb sb) k = (k ≡ 1) ⊎ ((k ≡ 9) ⊎ (k ≡ 14))
Tries (at n (deliver ab sb)) k = (1 ≤ k) × (k ≤ 16)
Tries (at n (query qb)) k = (k ≡ 1) ⊎ ((k ≡ 3) ⊎ ((17 ≤ k) × (k ≤ 21)))
Tries (at n (checkpoint out)) k = (k ≡ 1) ⊎ (k ≡ 22)
-- "23, .. tried after 1"
Tries (at n (page given out)) k = (k ≡ 1) ⊎ (k ≡ 23)

-- ---- the words of the table

-- the bytes are a well-formed announcement, and say this
abbrev pub Announces : List ℕ → Announcement → Type 0
Announces ab a = read_announcement ab ≡ Some a

-- the bytes are a well-formed query, and say this
abbrev pub Queries : List ℕ → Query → Type 0
Queries qb q = read_query qb ≡ Some q

-- the bytes are a well-formed checkpoint and a well-formed start record, and this is the checkpoint's seat that the record names
pub record Starts (cb sb : List ℕ) (y : Start) (seat : Seat) : Type 0 where
  pub checkpoint : is_checkpoint cb ≡ true
  pub record-read : read_start sb ≡ Some y
  pub named : seat ≡ seat_at y.seat (read_checkpoint cb).state.seats

-- 1: a record, start's checkpoint, or a query's counts
pub data Malformed : Asked → Type 0 where
  of-checkpoint : {cb sb : List ℕ} → is_checkpoint cb ≡ false → Malformed (start cb sb)
  of-start : {cb sb : List ℕ} → read_start sb ≡ None → Malformed (start cb sb)
  of-announcement : {n : Node} {ab sb : List ℕ} → read_announcement ab ≡ None → Malformed (at n (deliver ab sb))
  of-query : {n : Node} {qb : List ℕ} → read_query qb ≡ None → Malformed (at n (query qb))
  -- "a lent count above 10 is rule 1"
  of-count : {n : Node} {qb : List ℕ} (door : ℕ) → most_misses < misses_at door n.counts → Malformed (at n (query qb))

-- 9: what each kind asks of the seat's standing does not hold of it
pub data Unfit : Asked → Type 0 where
  -- 3 presents, 1: "certified to present"
  presents : {n : Node} {ab sb : List ℕ} {a : Announcement} {i : ℕ} → Announces ab a → a.action ≡ Presents i true
      → (seat_at i n.state.seats).standing ≢ certified → Unfit (at n (deliver ab sb))
  -- 3 presents, 0: "back"
  back : {n : Node} {ab sb : List ℕ} {a : Announcement} {i : ℕ} → Announces ab a → a.action ≡ Presents i false
      → (seat_at i n.state.seats).standing ≢ present → Unfit (at n (deliver ab sb))
  -- 4 certify: "free to certified"
  certify : {n : Node} {ab sb : List ℕ} {a : Announcement} {i life : ℕ} → Announces ab a → a.action ≡ Certify i life
      → (seat_at i n.state.seats).standing ≢ free → Unfit (at n (deliver ab sb))
  -- 6 remove: "certified or present to retired"
  remove : {n : Node} {ab sb : List ℕ} {a : Announcement} {i : ℕ} → Announces ab a → a.action ≡ Remove i
      → (seat_at i n.state.seats).standing ≢ certified → (seat_at i n.state.seats).standing ≢ present → Unfit (at n (deliver ab sb))
  -- 7 rejoin: "certified or present only"
  rejoin : {n : Node} {ab sb : List ℕ} {a : Announcement} {i life : ℕ} → Announces ab a → a.action ≡ Rejoin i life
      → (seat_at i n.state.seats).standing ≢ certified → (seat_at i n.state.seats).standing ≢ present → Unfit (at n (deliver ab sb))
  -- start: "free or retired"
  starting : {cb sb : List ℕ} {y : Start} {seat : Seat} → Starts cb sb y seat
      → (seat.standing ≡ free) ⊎ (seat.standing ≡ retired) → Unfit (start cb sb)

-- 11: the last row of the table is used, once the lapsed proposals are dropped; a grant needs no row where it replaces the login, and has one where it
-- evicts another
pub data Full : Asked → Type 0 where
  propose : {n : Node} {ab sb : List ℕ} {a : Announcement} {x : Subject} → Announces ab a → a.action ≡ Propose x
      → proposals_full (drop_lapsed a.day n.state.proposals) ≡ true → Full (at n (deliver ab sb))
  grant : {n : Node} {ab sb : List ℕ} {a : Announcement} {x : Login} → Announces ab a → a.action ≡ Grant x
      → NoRowFor a.day x.login n.state.logins → Full (at n (deliver ab sb))

-- 13: "Cancelling a lapsed one meets rule 13."
pub data Missing : Asked → Type 0 where
  proposal : {n : Node} {ab sb : List ℕ} {a : Announcement} {c : Cycle} → Announces ab a → a.action ≡ Cancel c
      → has_proposal c (drop_lapsed a.day n.state.proposals) ≡ false → Missing (at n (deliver ab sb))
  login : {n : Node} {ab sb : List ℕ} {a : Announcement} {l : ℕ} → Announces ab a → a.action ≡ End l
      → is_listed l n.state.logins ≡ false → Missing (at n (deliver ab sb))

-- 14
pub data Below : Asked → Type 0 where
  -- "rejoin life not above the listed"
  rejoin : {n : Node} {ab sb : List ℕ} {a : Announcement} {i life : ℕ} → Announces ab a → a.action ≡ Rejoin i life
      → life ≤ (seat_at i n.state.seats).life → Below (at n (deliver ab sb))
  -- "start life below it"
  starting : {cb sb : List ℕ} {y : Start} {seat : Seat} → Starts cb sb y seat → y.life < seat.life → Below (start cb sb)
  -- "grant ending before its day"
  grant : {n : Node} {ab sb : List ℕ} {a : Announcement} {x : Login} → Announces ab a → a.action ≡ Grant x
      → DayBefore x.end a.day → Below (at n (deliver ab sb))

-- 15 and 16: the sheet is well formed and shows no quorum
pub record NoQuorum (n : Node) (sb : List ℕ) : Type 0 where
  pub sheet : is_sheet sb ≡ true
  pub few : counted_seats (rows_of sb) n.state.seats < quorum_of n.state

-- ---- the table of no

-- the number applies to the call
pub data Applies : Asked → ℕ → Type 0 where
  -- 1 "record other than a sheet, checkpoint or image malformed"
  no-1 : {x : Asked} → Malformed x → Applies x 1
  -- 2 "sheet malformed"
  no-2 : {n : Node} {ab sb : List ℕ} → is_sheet sb ≡ false → Applies (at n (deliver ab sb)) 2
  -- 3 "node halted": "A node whose own seat is retired is halted."
  no-3 : {n : Node} {c : Call} → (held_seat n.state n.own).standing ≡ retired → Applies (at n c) 3
  -- 4 "cycle passed"
  no-4 : {n : Node} {ab sb : List ℕ} {a : Announcement} → Announces ab a → CycleBefore a.cycle n.state.cycle → Applies (at n (deliver ab sb)) 4
  -- 5 "cycle not reached"
  no-5 : {n : Node} {ab sb : List ℕ} {a : Announcement} → Announces ab a → CycleBefore n.state.cycle a.cycle → Applies (at n (deliver ab sb)) 5
  -- 6 "cycle is 4294967295"
  no-6 : {n : Node} {c : Call} → n.state.cycle ≡ last_cycle → Applies (at n c) 6
  -- 7 "day before agreed day"
  no-7 : {n : Node} {ab sb : List ℕ} {a : Announcement} → Announces ab a → DayBefore a.day n.state.day → Applies (at n (deliver ab sb)) 7
  -- 8 "too few trustees": "Kinds 4, 5 and 6 need more than half of level 2, the others more than half of level 1."
  no-8 : {n : Node} {ab sb : List ℕ} {a : Announcement} → Announces ab a → is_sheet sb ≡ true
      → is_signed n.state (level_of (kind_of a.action)) (level1 sb) (level2 sb) ≡ false → Applies (at n (deliver ab sb)) 8
  -- 9 "seat's standing unfit (kinds 3, 4, 6, 7; start: free or retired)"
  no_9 : {x : Asked} → Unfit x → Applies x 9
  -- 10 "no ripe proposal", for the kinds that have a subject: none is a notice by "the notices in force before the action"
  no-10 : {n : Node} {ab sb : List ℕ} {a : Announcement} → Announces ab a → (subject_of a.action).kind ≢ 0
      → ((r : Proposal) → Memᴰ r n.state.proposals → ¬ IsNotice n.state.minima.notices (subject_of a.action) a.day r)
      → Applies (at n (deliver ab sb)) 10
  -- 11 "table full and the row is needed"; of a grant, "Otherwise 11 remains"
  no-11 : {x : Asked} → Full x → Applies x 11
  -- 12 "kind 3, 5 or 6 would leave quorum above p"
  no-12 : {n : Node} {ab sb : List ℕ} {a : Announcement} → Announces ab a
      → (kind_of a.action ≡ 3) ⊎ ((kind_of a.action ≡ 5) ⊎ (kind_of a.action ≡ 6))
      → present_seats (perform n.state a).seats < quorum_of (perform n.state a) → Applies (at n (deliver ab sb)) 12
  -- 13 "no such proposal or login"
  no-13 : {x : Asked} → Missing x → Applies x 13
  -- 14 "rejoin life not above the listed; start life below it; grant ending before its day"
  no-14 : {x : Asked} → Below x → Applies x 14
  -- 15 "no quorum, and own seat not present or own life not listed"
  no-15 : {n : Node} {ab sb : List ℕ} {a : Announcement} → Announces ab a → NoQuorum n sb
      → ((held_seat n.state n.own).standing ≢ present) ⊎ ((held_seat n.state n.own).life ≢ n.own.life) → Applies (at n (deliver ab sb)) 15
  -- 16 "no quorum, and voted for other bytes this cycle"
  no-16 : {n : Node} {ab sb : List ℕ} {a : Announcement} → Announces ab a → NoQuorum n sb → n.own.voted ≡ true → n.own.vote ≢ ab
      → Applies (at n (deliver ab sb)) 16
  -- 17 "misses are 10", their most, at the query's door
  no-17 : {n : Node} {qb : List ℕ} {q : Query} → Queries qb q → most_misses ≤ misses_at q.door n.counts → Applies (at n (query qb)) 17
  -- 18 "t minus agreed day above S": "Let t be the later of given and agreed day."
  no-18 : {n : Node} {qb : List ℕ} {q : Query} → Queries qb q
      → n.state.minima.silence < days_since (later_day q.day n.state.day) n.state.day → Applies (at n (query qb)) 18
  -- 19 "login not listed"
  no-19 : {n : Node} {qb : List ℕ} {q : Query} → Queries qb q → is_listed q.login n.state.logins ≡ false → Applies (at n (query qb)) 19
  -- 20 "t after end day"
  no-20 : {n : Node} {qb : List ℕ} {q : Query} → Queries qb q → is_listed q.login n.state.logins ≡ true
      → DayBefore (find_login q.login n.state.logins).end (later_day q.day n.state.day) → Applies (at n (query qb)) 20
  -- 21 "right not held"
  no-21 : {n : Node} {qb : List ℕ} {q : Query} → Queries qb q → is_listed q.login n.state.logins ≡ true
      → holds_right q.right (find_login q.login n.state.logins) ≡ false → Applies (at n (query qb)) 21
  -- 22 "output slice shorter than 1,108 (checkpoint) or 1,139 (image); longer ones keep their tail", 1,110 and 1,144 since A7: by value only the
  -- checkpoint is written
  no-22 : {n : Node} {out : List ℕ} → length out < checkpoint_size → Applies (at n (checkpoint out)) 22
  -- 23 "slice shorter than 47 bytes times the logins"
  no-23 : {n : Node} {given : Day} {out : List ℕ} → length out < line_size * line_count n.state → Applies (at n (page given out)) 23

-- ---- "Otherwise the lowest number that applies is given, and only when it applies."

-- k is the lowest number that the call tries and that applies
pub record IsLowest (x : Asked) (k : ℕ) : Type 0 where
  pub tried : Tries x k
  pub applies : Applies x k
  pub none-lower : (j : ℕ) → Tries x j → j < k → ¬ Applies x j

-- A number that is given is the lowest that applies.
abbrev pub GivesLowest : Type 0
GivesLowest = (x : Asked) (k : ℕ) → number_given x ≡ k → k ≢ 0 → k ≢ 128 → IsLowest x k

-- The lowest that applies is given.
abbrev pub LowestIsGiven : Type 0
LowestIsGiven = (x : Asked) (k : ℕ) → IsLowest x k → number_given x ≡ k

-- Where none is given, none applies.
abbrev pub NoneApplies : Type 0
NoneApplies = (x : Asked) → (number_given x ≡ 0) ⊎ (number_given x ≡ 128) → (j : ℕ) → Tries x j → ¬ Applies x j
