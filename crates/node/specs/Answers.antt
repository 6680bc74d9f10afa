-- Each answer's number: "Refusals return the number"; started, done, open and given are 0, voted is 128. No refusal has either.
use Rattle.std.specs.Prelude.{ℕ}
use Rattle.node.specs.StartAnswer.{StartAnswer}
use Rattle.node.specs.StartAnswer as S
use Rattle.node.specs.DeliverAnswer.{DeliverAnswer}
use Rattle.node.specs.DeliverAnswer as D
use Rattle.node.specs.QueryAnswer.{QueryAnswer}
use Rattle.node.specs.QueryAnswer as Q
use Rattle.node.specs.CheckpointAnswer.{CheckpointAnswer}
use Rattle.node.specs.CheckpointAnswer as C
use Rattle.node.specs.PageAnswer.{PageAnswer}
use Rattle.node.specs.PageAnswer as P

abbrev pub start_number : StartAnswer → ℕ
start_number S.Started = 0
start_number (S.Refused k) = k

abbrev pub deliver_number : DeliverAnswer → ℕ
deliver_number D.Done = 0
deliver_number D.Voted = 128
deliver_number (D.Refused k) = k

abbrev pub query_number : QueryAnswer → ℕ
query_number Q.Open = 0
query_number (Q.Refused k) = k

abbrev pub checkpoint_number : CheckpointAnswer → ℕ
checkpoint_number C.Given = 0
checkpoint_number (C.Refused k) = k

abbrev pub page_number : PageAnswer → ℕ
page_number (P.Given lines) = 0
page_number (P.Refused k) = k
