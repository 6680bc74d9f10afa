use Rattle.requests.proofs.lines.put_answer.Goals as goal

pub returns-in-Started : goal.returns-in-Started
returns-in-Started c =
    record { value = rw c.in-Started.is c.put_bytes.ensures.value; out_after = rw c.in-Started.is c.put_bytes.ensures.out_after }

pub returns-in-Voted : goal.returns-in-Voted
returns-in-Voted c =
    record { value = rw c.in-Voted.is c.put_bytes-in-Voted.ensures.value; out_after = rw c.in-Voted.is c.put_bytes-in-Voted.ensures.out_after }

pub returns-in-Done : goal.returns-in-Done
returns-in-Done c =
    record { value = rw c.in-Done.is c.put_bytes-in-Done.ensures.value; out_after = rw c.in-Done.is c.put_bytes-in-Done.ensures.out_after }

pub returns-in-Open : goal.returns-in-Open
returns-in-Open c =
    record { value = rw c.in-Open.is c.put_bytes-in-Open.ensures.value; out_after = rw c.in-Open.is c.put_bytes-in-Open.ensures.out_after }

pub returns-in-No : goal.returns-in-No
returns-in-No c =
    record { value = rw c.in-No.is c.put_refusal.ensures.value; out_after = rw c.in-No.is c.put_refusal.ensures.out_after }
