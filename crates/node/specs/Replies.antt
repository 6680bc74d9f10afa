-- What the code hands back, read as the paper has it: the paper's answer, with its number, for each that the code gives.
use Rattle.std.specs.Prelude.{ℕ, Result, Ok, Err}
use Rattle.refusals.specs.declared.Refusal.{Refusal}
use Rattle.refusals.specs.Refusals.{number_of}
use Rattle.node.specs.declared.Reply.{Reply}
use Rattle.node.specs.declared.CountedAnswer as C
use Rattle.node.specs.declared.Delivered.{Delivered}
use Rattle.node.specs.declared.Delivered.TheVariants as D
use Rattle.node.specs.StartAnswer as Start
use Rattle.node.specs.DeliverAnswer as Deliver
use Rattle.node.specs.QueryAnswer as Query
use Rattle.node.specs.CheckpointAnswer as Checkpoint
use Rattle.node.specs.PageAnswer as Page
use Rattle.node.specs.Reply.{ReplyWith, CountedAnswer}

abbrev pub start_answer : Result (Unit {0}) Refusal → Start.StartAnswer
start_answer (Ok x) = Start.Started
start_answer (Err r) = Start.Refused (number_of r)

abbrev pub deliver_answer : Result Delivered Refusal → Deliver.DeliverAnswer
deliver_answer (Ok D.Done) = Deliver.Done
deliver_answer (Ok D.Voted) = Deliver.Voted
deliver_answer (Err r) = Deliver.Refused (number_of r)

abbrev pub query_answer : Result (Unit {0}) Refusal → Query.QueryAnswer
query_answer (Ok x) = Query.Open
query_answer (Err r) = Query.Refused (number_of r)

abbrev pub checkpoint_answer : Result (Unit {0}) Refusal → Checkpoint.CheckpointAnswer
checkpoint_answer (Ok x) = Checkpoint.Given
checkpoint_answer (Err r) = Checkpoint.Refused (number_of r)

abbrev pub page_answer : Result ℕ Refusal → Page.PageAnswer
page_answer (Ok lines) = Page.Given lines
page_answer (Err r) = Page.Refused (number_of r)

-- what is handed back, with the answer read so
abbrev pub reply : {T A : Type 0} → (Result T Refusal → A) → Reply T → ReplyWith A
reply f r = record { node = r.node; answer = f r.answer }

abbrev pub counted_answer : C.CountedAnswer → CountedAnswer
counted_answer c = record { counts = c.counts; answer = query_answer c.answer }
