-- What the calls by value hand back: "Methods on the node by value": the next node, with the answer.
use Rattle.node.specs.declared.Node.{Node}
use Rattle.verdicts.specs.declared.AttemptCounts.{AttemptCounts}
use Rattle.node.specs.StartAnswer.{StartAnswer}
use Rattle.node.specs.DeliverAnswer.{DeliverAnswer}
use Rattle.node.specs.QueryAnswer.{QueryAnswer}
use Rattle.node.specs.CheckpointAnswer.{CheckpointAnswer}
use Rattle.node.specs.PageAnswer.{PageAnswer}

pub record ReplyWith (A : Type 0) : Type 0 where
  pub node : Node
  pub answer : A

abbrev pub StartReply : Type 0
StartReply = ReplyWith StartAnswer

abbrev pub DeliverReply : Type 0
DeliverReply = ReplyWith DeliverAnswer

abbrev pub QueryReply : Type 0
QueryReply = ReplyWith QueryAnswer

abbrev pub CheckpointReply : Type 0
CheckpointReply = ReplyWith CheckpointAnswer

abbrev pub PageReply : Type 0
PageReply = ReplyWith PageAnswer

-- an answer, and the counts of misses after it
pub record CountedAnswer : Type 0 where
  pub counts : AttemptCounts
  pub answer : QueryAnswer
