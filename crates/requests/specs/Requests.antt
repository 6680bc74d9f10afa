-- "The program node-run reads records from standard input: start and checkpoint (one request), then announcement and sheet (one), or query (one)."
use Rattle.std.specs.Prelude.{ℕ, ◌+◌, List, Bool, true, false, cond, eqb, take, drop, Option, Some, None}
use Rattle.state.specs.Time.{cycle, is_same_cycle}
use Rattle.records.specs.Layout.{kind_start}
use Rattle.node.specs.declared.Node.{Node}
use Rattle.node.specs.Reply.{StartReply}
use Rattle.node.specs.StartAnswer.{StartAnswer}
use Rattle.node.specs.StartAnswer as S
use Rattle.node.specs.DeliverAnswer.{DeliverAnswer}
use Rattle.node.specs.DeliverAnswer as D
use Rattle.node.specs.QueryAnswer.{QueryAnswer}
use Rattle.node.specs.QueryAnswer as Q
use Rattle.node.specs.Start.{start_of}
use Rattle.node.specs.Deliver.{deliver_of}
use Rattle.node.specs.Query.{query_of}
use Rattle.requests.specs.declared.Frame.{Frame}
use Rattle.requests.specs.declared.Answer.{Answer}
use Rattle.requests.specs.declared.Step.{Step}
use Rattle.requests.specs.Framing.{is_announcement, is_query, is_checkpoint_kind, is_sheet_kind, frame_of}

-- The blank node, whose cycle is 0, stands for none: no start takes a checkpoint of cycle 0.
abbrev pub is_none : Node → Bool
is_none n = is_same_cycle n.state.cycle (cycle 0)

-- "A cut record prints "no 1" and ends the run. So does a record out of its place, or an announcement or query before any node."
abbrev pub cuts : Node → Step
cuts n = record { node = n; answer = Answer.No 1; used = 0; ends = true }

abbrev pub answers : Node → Answer → ℕ → Step
answers n a used = record { node = n; answer = a; used = used; ends = false }

abbrev pub deliver_answer : DeliverAnswer → Answer
deliver_answer D.Done = Answer.Done
deliver_answer D.Voted = Answer.Voted
deliver_answer (D.Refused k) = Answer.No k

abbrev pub query_answer : QueryAnswer → Answer
query_answer Q.Open = Answer.Open
query_answer (Q.Refused k) = Answer.No k

-- "A later start replaces the node if it is accepted and leaves it otherwise.": n held before, m started
abbrev pub start_step : Node → ℕ → Node → StartAnswer → Step
start_step n used m S.Started = answers m Answer.Started used
start_step n used m (S.Refused k) = answers n (Answer.No k) used

abbrev pub after_start : Node → ℕ → StartReply → Step
after_start n used r = start_step n used r.node r.answer

-- the second record, in the input b without the first, and what comes of it: "a request without its second record, counts as cut"
abbrev pub with_second : Node → (ℕ → Bool) → (ℕ → List ℕ → Step) → List ℕ → Option Frame → Step
with_second n fits f b None = cuts n
with_second n fits f b (Some x) = cond (fits x.kind) (f x.size (take x.size b)) (cuts n)

-- a start record, the first bytes of b, and a checkpoint
unfoldable pub step_start : Node → ℕ → List ℕ → Step
step_start n first b =
    with_second n is_checkpoint_kind
    (λ size checkpoint. after_start n (first + size) (start_of checkpoint (take first b)))
    (drop first b)
    (frame_of (drop first b))

-- an announcement, the first bytes of b, and a sheet
unfoldable pub step_deliver : Node → ℕ → List ℕ → Step
step_deliver n first b =
    with_second n is_sheet_kind
    (λ size sheet. let r = deliver_of n (take first b) sheet in answers r.node (deliver_answer r.answer) (first + size))
    (drop first b)
    (frame_of (drop first b))

-- a query, the first bytes of b
unfoldable pub step_query : Node → ℕ → List ℕ → Step
step_query n size b = let r = query_of n (take size b) in answers r.node (query_answer r.answer) size

abbrev pub placed : Node → List ℕ → Option Frame → Step
placed n b None = cuts n
placed n b (Some x) =
    cond (eqb x.kind kind_start) (step_start n x.size b)
    (cond (is_none n) (cuts n)
    (cond (is_query x.kind) (step_query n x.size b)
    (cond (is_announcement x.kind) (step_deliver n x.size b) (cuts n))))

-- the request at the front of the input b, at node n
unfoldable pub step_of : Node → List ℕ → Step
step_of n b = placed n b (frame_of b)
