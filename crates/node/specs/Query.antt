-- "Query. Let t be the later of given and agreed day. Open when nothing below applies. 19, 20 and 21 add a miss; open sets misses to 0; 17 and 18
-- don't touch them." The misses are those at the query's door.
use Rattle.std.specs.Prelude.{ℕ, ◌+◌, List, Bool, cond, ◌&&◌, eqb, leb, Option, Some, None}
use Rattle.records.specs.declared.Query.{Query}
use Rattle.records.specs.StartQuery.{read_query}
use Rattle.state.specs.declared.State.{State}
use Rattle.verdicts.specs.declared.Own.{Own}
use Rattle.verdicts.specs.declared.AttemptCounts.{AttemptCounts}
use Rattle.verdicts.specs.Attempts.{misses_at, with_misses, are_in_range}
use Rattle.verdicts.specs.Verdicts.{query_refusal}
use Rattle.node.specs.declared.Node.{Node}
use Rattle.node.specs.Reply.{CountedAnswer}
use Rattle.node.specs.Reply.{QueryReply}
use Rattle.node.specs.QueryAnswer.{Open, Refused}

-- "19, 20 and 21 add a miss"
abbrev pub adds_miss : ℕ → Bool
adds_miss k = leb 19 k && leb k 21

abbrev pub refuses_query : AttemptCounts → ℕ → CountedAnswer
refuses_query c k = record { counts = c; answer = Refused k }

-- the answer at a door from the number of the refusal, 0 where there is none, and the counts after it
unfoldable pub answered : AttemptCounts → ℕ → ℕ → CountedAnswer
answered c door k =
    cond (eqb k 0) (record { counts = with_misses door 0 c; answer = Open })
    (cond (adds_miss k) (refuses_query (with_misses door (misses_at door c + 1) c) k)
    (refuses_query c k))

-- "A door above 3 or a lent count above 10 is rule 1.": a query that names such a door is malformed
abbrev pub ask_record : State → Own → AttemptCounts → Option Query → CountedAnswer
ask_record s o c None = refuses_query c 1
ask_record s o c (Some q) = cond (are_in_range c) (answered c q.door (query_refusal s o c q)) (refuses_query c 1)

-- query, of a state, an own part, the counts and the record's bytes
unfoldable pub ask_of : State → Own → AttemptCounts → List ℕ → CountedAnswer
ask_of s o c qb = ask_record s o c (read_query qb)

-- the node with other counts
abbrev pub with_counts : AttemptCounts → Node → Node
with_counts c n = record { state = n.state; own = n.own; counts = c }

-- query, of a node and the record's bytes
unfoldable pub query_of : Node → List ℕ → QueryReply
query_of n qb = let r = ask_of n.state n.own n.counts qb in record { node = with_counts r.counts n; answer = r.answer }
