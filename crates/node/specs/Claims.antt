-- What each call comes to, and why: a refusal, which changes nothing but the miss that the paper names, or what the paper says that it does.
use Rattle.std.specs.Prelude.{◌≡◌, ◌≢◌, true, false, List, ℕ, ◌+◌, ◌≤◌, ◌<◌, Some, None}
use Rattle.state.specs.Time.{later_day, days_since, DayBefore, DayNotAfter}
use Rattle.state.specs.Seats.{present, retired, seat_at, is_active, quorum_of}
use Rattle.state.specs.Rows.{holds_right}
use Rattle.tables.specs.Logins.{is_listed, find_login}
use Rattle.records.specs.declared.Announcement.{Announcement}
use Rattle.records.specs.declared.Query.{Query}
use Rattle.records.specs.declared.Start.{Start}
use Rattle.records.specs.Announcement.{read_announcement}
use Rattle.records.specs.Sheet.{is_sheet, level1, level2, rows_of, counted_seats}
use Rattle.records.specs.StartQuery.{read_query, read_start}
use Rattle.checkpoint.specs.Checkpoint.{is_checkpoint, read_checkpoint}
use Rattle.actions.specs.Perform.{without_lapsed, perform}
use Rattle.actions.specs.Claims.{Admitted}
use Rattle.verdicts.specs.Verdicts.{deliver_refusal}
use Rattle.node.specs.declared.Node.{Node}
use Rattle.node.specs.Reply.{DeliverReply}
use Rattle.node.specs.DeliverAnswer as DeliverAnswer
use Rattle.node.specs.Reply.{QueryReply}
use Rattle.node.specs.QueryAnswer as QueryAnswer
use Rattle.node.specs.Reply.{StartReply}
use Rattle.node.specs.StartAnswer as StartAnswer
use Rattle.verdicts.specs.Own.{held_seat, own_afresh, with_vote}
use Rattle.verdicts.specs.Attempts.{most_misses, misses_at, with_misses, no_misses}
use Rattle.node.specs.Deliver.{deliver_of}
use Rattle.node.specs.Query.{with_counts, query_of}
use Rattle.node.specs.Start.{blank_node, start_of}

-- ---- deliver

-- "own seat not present or own life not listed" does not hold
pub record MayVote (n : Node) : Type 0 where
  pub standing : (held_seat n.state n.own).standing ≡ present
  pub life : (held_seat n.state n.own).life ≡ n.own.life

-- the announcement a is read, the sheet is well formed, and no number from 1 to 14 applies
pub record Accepted (n : Node) (ab sb : List ℕ) (a : Announcement) : Type 0 where
  pub read : read_announcement ab ≡ Some a
  pub sheet : is_sheet sb ≡ true
  pub running : (held_seat n.state n.own).standing ≢ retired
  pub admitted : Admitted n.state a (level1 sb) (level2 sb)

-- "the sheet shows a quorum of the state before the action"
abbrev pub ShowsQuorum : Node → List ℕ → Type 0
ShowsQuorum n sb = quorum_of n.state ≤ counted_seats (rows_of sb) n.state.seats

-- why a deliver is refused with the number k
pub data DeliverRefused (n : Node) (ab sb : List ℕ) (k : ℕ) : Type 0 where
  announcement-malformed : k ≡ 1 → read_announcement ab ≡ None → DeliverRefused n ab sb k
  sheet-malformed : (a : Announcement) → k ≡ 2 → read_announcement ab ≡ Some a → is_sheet sb ≡ false → DeliverRefused n ab sb k
  rule : (a : Announcement) → read_announcement ab ≡ Some a → is_sheet sb ≡ true → 1 ≤ k → k ≤ 14
      → deliver_refusal (without_lapsed a.day n.state) n.own a sb ≡ k → DeliverRefused n ab sb k
  may-not-vote : (a : Announcement) → k ≡ 15 → Accepted n ab sb a → ¬ ShowsQuorum n sb → ¬ MayVote n → DeliverRefused n ab sb k
  voted-otherwise : (a : Announcement) → k ≡ 16 → Accepted n ab sb a → ¬ ShowsQuorum n sb → n.own.voted ≡ true → n.own.vote ≢ ab
      → DeliverRefused n ab sb k

pub data Delivery (n : Node) (ab sb : List ℕ) (r : DeliverReply) : Type 0 where
  refuses : (k : ℕ) → DeliverRefused n ab sb k → r ≡ record { node = n; answer = DeliverAnswer.Refused k } → Delivery n ab sb r
  votes : (a : Announcement) → Accepted n ab sb a → ¬ ShowsQuorum n sb → MayVote n
      → r ≡ record {
        node = record { state = n.state; own = with_vote ab n.own; counts = n.counts };
        answer = DeliverAnswer.Voted;
      }
      → Delivery n ab sb r
  performs : (a : Announcement) → Accepted n ab sb a → ShowsQuorum n sb
      → r ≡ record {
        node = record { state = perform n.state a; own = own_afresh n.own.seat n.own.life; counts = no_misses };
        answer = DeliverAnswer.Done;
      }
      → Delivery n ab sb r

abbrev pub DeliverComesTo : Type 0
DeliverComesTo = (n : Node) (ab sb : List ℕ) → Delivery n ab sb (deliver_of n ab sb)

-- ---- query

-- why a query is refused with the number k; t is "the later of given and agreed day"
pub data QueryRefused (n : Node) (qb : List ℕ) (k : ℕ) : Type 0 where
  malformed : k ≡ 1 → read_query qb ≡ None → QueryRefused n qb k
  count-above : (door : ℕ) → k ≡ 1 → most_misses < misses_at door n.counts → QueryRefused n qb k
  halted : (q : Query) → k ≡ 3 → read_query qb ≡ Some q → (held_seat n.state n.own).standing ≡ retired → QueryRefused n qb k
  locked : (q : Query) → k ≡ 17 → read_query qb ≡ Some q → most_misses ≤ misses_at q.door n.counts → QueryRefused n qb k
  silent : (q : Query) → k ≡ 18 → read_query qb ≡ Some q
      → n.state.minima.silence < days_since (later_day q.day n.state.day) n.state.day → QueryRefused n qb k
  unlisted : (q : Query) → k ≡ 19 → read_query qb ≡ Some q → is_listed q.login n.state.logins ≡ false → QueryRefused n qb k
  ended : (q : Query) → k ≡ 20 → read_query qb ≡ Some q → is_listed q.login n.state.logins ≡ true
      → DayBefore (find_login q.login n.state.logins).end (later_day q.day n.state.day) → QueryRefused n qb k
  right-not-held : (q : Query) → k ≡ 21 → read_query qb ≡ Some q → is_listed q.login n.state.logins ≡ true
      → holds_right q.right (find_login q.login n.state.logins) ≡ false → QueryRefused n qb k

-- the same node with one miss more at the door, and with none there
abbrev pub one_miss_more : ℕ → Node → Node
one_miss_more door n = with_counts (with_misses door (misses_at door n.counts + 1) n.counts) n

abbrev pub no_misses_at : ℕ → Node → Node
no_misses_at door n = with_counts (with_misses door 0 n.counts) n

-- nothing refuses the query q
pub record Opens (n : Node) (q : Query) : Type 0 where
  pub none_above : (door : ℕ) → misses_at door n.counts ≤ most_misses
  pub running : (held_seat n.state n.own).standing ≢ retired
  pub unlocked : misses_at q.door n.counts < most_misses
  pub within-silence : days_since (later_day q.day n.state.day) n.state.day ≤ n.state.minima.silence
  pub listed : is_listed q.login n.state.logins ≡ true
  pub not-ended : DayNotAfter (later_day q.day n.state.day) (find_login q.login n.state.logins).end
  pub right-held : holds_right q.right (find_login q.login n.state.logins) ≡ true

pub data Asking (n : Node) (qb : List ℕ) (r : QueryReply) : Type 0 where
  refuses : (k : ℕ) → k ≤ 18 → QueryRefused n qb k → r ≡ record { node = n; answer = QueryAnswer.Refused k } → Asking n qb r
  misses : (k : ℕ) (q : Query) → 19 ≤ k → read_query qb ≡ Some q → misses_at q.door n.counts < most_misses → QueryRefused n qb k
      → r ≡ record { node = one_miss_more q.door n; answer = QueryAnswer.Refused k } → Asking n qb r
  opens : (q : Query) → read_query qb ≡ Some q → Opens n q → r ≡ record { node = no_misses_at q.door n; answer = QueryAnswer.Open } → Asking n qb r

abbrev pub QueryComesTo : Type 0
QueryComesTo = (n : Node) (qb : List ℕ) → Asking n qb (query_of n qb)

-- ---- start

-- why a start is refused with the number k
pub data StartRefused (cb sb : List ℕ) (k : ℕ) : Type 0 where
  start-malformed : k ≡ 1 → read_start sb ≡ None → StartRefused cb sb k
  checkpoint-malformed : k ≡ 1 → is_checkpoint cb ≡ false → StartRefused cb sb k
  seat-unfit : (x : Start) → k ≡ 9 → read_start sb ≡ Some x → is_checkpoint cb ≡ true
      → is_active (seat_at x.seat (read_checkpoint cb).state.seats) ≡ false → StartRefused cb sb k
  life-below : (x : Start) → k ≡ 14 → read_start sb ≡ Some x → is_checkpoint cb ≡ true
      → x.life < (seat_at x.seat (read_checkpoint cb).state.seats).life → StartRefused cb sb k

pub data Starting (cb sb : List ℕ) (r : StartReply) : Type 0 where
  refuses : (k : ℕ) → StartRefused cb sb k → r ≡ record { node = blank_node; answer = StartAnswer.Refused k } → Starting cb sb r
  starts : (x : Start) → read_start sb ≡ Some x → is_checkpoint cb ≡ true
      → is_active (seat_at x.seat (read_checkpoint cb).state.seats) ≡ true
      → (seat_at x.seat (read_checkpoint cb).state.seats).life ≤ x.life
      → r ≡ record {
        node = record { state = (read_checkpoint cb).state; own = own_afresh x.seat x.life; counts = no_misses };
        answer = StartAnswer.Started;
      }
      → Starting cb sb r

abbrev pub StartComesTo : Type 0
StartComesTo = (cb sb : List ℕ) → Starting cb sb (start_of cb sb)
