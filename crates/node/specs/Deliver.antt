-- "Deliver. If no number from 1 to 14 applies and the sheet shows a quorum of the state before the action, the node performs it: cycle plus 1, day as
-- announced, vote cleared, misses 0. Without a quorum it votes, unless 15 or 16 applies; the same 24 bytes later in that cycle get the same vote."
use Rattle.std.specs.Prelude.{ℕ, List, cond, eqb, Option, Some, None}
use Rattle.state.specs.declared.State.{State}
use Rattle.records.specs.declared.Announcement.{Announcement}
use Rattle.records.specs.Announcement.{read_announcement}
use Rattle.records.specs.Sheet.{is_sheet}
use Rattle.actions.specs.Perform.{without_lapsed, perform}
use Rattle.verdicts.specs.declared.Own.{Own}
use Rattle.verdicts.specs.Own.{own_afresh, with_vote}
use Rattle.verdicts.specs.Attempts.{no_misses}
use Rattle.verdicts.specs.Verdicts.{deliver_refusal, shows_quorum, vote_refusal}
use Rattle.node.specs.declared.Node.{Node}
use Rattle.node.specs.Reply.{DeliverReply}
use Rattle.node.specs.DeliverAnswer.{Done, Voted, Refused}

abbrev pub refuses_delivery : Node → ℕ → DeliverReply
refuses_delivery n k = record { node = n; answer = Refused k }

-- done, with this state: "vote cleared, misses 0"; "A performed action clears all four."
abbrev pub leaves : State → Own → DeliverReply
leaves s o = record { node = record { state = s; own = own_afresh o.seat o.life; counts = no_misses }; answer = Done }

abbrev pub performs : Node → Announcement → DeliverReply
performs n a = leaves (perform n.state a) n.own

abbrev pub votes : Node → List ℕ → DeliverReply
votes n ab = record { node = record { state = n.state; own = with_vote ab n.own; counts = n.counts }; answer = Voted }

-- without a quorum: refused by k, or votes where k is 0
abbrev pub without_quorum : Node → List ℕ → ℕ → DeliverReply
without_quorum n ab k = cond (eqb k 0) (votes n ab) (refuses_delivery n k)

-- a well-formed announcement a, whose bytes are ab, with the sheet sb. "Lapsed rows, judged by the announced day, are dropped before rules 9 to 14
-- are tried": the rules before don't look at proposals. "a refusal drops none", and a vote neither.
unfoldable pub deliver_read : Node → List ℕ → Announcement → List ℕ → DeliverReply
deliver_read n ab a sb =
    let k = deliver_refusal (without_lapsed a.day n.state) n.own a sb in
    cond (eqb k 0)
    (cond (shows_quorum n.state sb) (performs n a) (without_quorum n ab (vote_refusal n.state n.own ab)))
    (refuses_delivery n k)

-- 1 "record other than a sheet, checkpoint or image malformed", 2 "sheet malformed"
abbrev pub deliver_records : Node → List ℕ → Option Announcement → List ℕ → DeliverReply
deliver_records n ab None sb = refuses_delivery n 1
deliver_records n ab (Some a) sb = cond (is_sheet sb) (deliver_read n ab a sb) (refuses_delivery n 2)

-- deliver, of a node and the two records' bytes
unfoldable pub deliver_of : Node → List ℕ → List ℕ → DeliverReply
deliver_of n ab sb = deliver_records n ab (read_announcement ab) sb
