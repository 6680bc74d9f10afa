use mathlib.Core.Path.{sym, ap}
use Rattle.node.specs.Answers.{start_number}
use Rattle.node.specs.Reply.{StartReply}
use Rattle.node_c.specs.Calls.{node_start, return}
use Rattle.node_c.proofs.AnswerNumbers.{start-is}
use Rattle.node_c.proofs.Kept.{start-leaves}
use Rattle.node_c.proofs.entries.node_start.Goals as goal

pub returns-then-number-eq0 : goal.returns-then-number-eq0
unfolding node_start
returns-then-number-eq0 c =
    record {
      value = rw (← c.start-reply.ensures, start-is c.start-reply.result.answer, ← c.number_in-number.ensures, c.if-number-eq0.true) c.hand_out.ensures.value;
      out_after = rw (← c.start-reply.ensures, start-is c.start-reply.result.answer, ← c.number_in-number.ensures, c.if-number-eq0.true) c.hand_out.ensures.out_after;
    }

pub returns : goal.returns
unfolding node_start return
returns c =
    let a = c.args in
    let number = ap (λ (x : StartReply). start_number x.answer) c.start-reply.ensures in
    let n = rw (c.number_in-number.ensures, ← start-is c.start-reply.result.answer, number) at c.if-number-eq0.false in record { value = rw (← c.start-reply.ensures, start-is c.start-reply.result.answer, ← c.number_in-number.ensures) c.try_room.ensures; out_after = sym (start-leaves a.checkpoint.now a.start.now a.out.now n) }
