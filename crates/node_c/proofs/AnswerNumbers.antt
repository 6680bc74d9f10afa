-- The number of an answer, as the paper gives it and as the code does.
use Prim.Native.Nat.{ℕ}
use mathlib.Core.Path.{◌≡◌, refl}
use Rattle.std.specs.Prelude.{Result, Ok, Err}
use Rattle.refusals.specs.declared.Refusal.{Refusal}
use Rattle.refusals.specs.Refusals.{number_in}
use Rattle.node.specs.Answers.{start_number, query_number, checkpoint_number}
use Rattle.node.specs.Replies.{start_answer, query_answer, checkpoint_answer, page_answer}
use Rattle.node_c.specs.Calls.{page_returned, value_returned}

pub start-is : (x : Result (Unit {0}) Refusal) → start_number (start_answer x) ≡ number_in x
start-is (Ok x) = refl
start-is (Err r) = refl

pub query-is : (x : Result (Unit {0}) Refusal) → query_number (query_answer x) ≡ number_in x
query-is (Ok x) = refl
query-is (Err r) = refl

pub checkpoint-is : (x : Result (Unit {0}) Refusal) → checkpoint_number (checkpoint_answer x) ≡ number_in x
checkpoint-is (Ok x) = refl
checkpoint-is (Err r) = refl

pub page-is : (x : Result ℕ Refusal) → page_returned (page_answer x) ≡ value_returned x
page-is (Ok lines) = refl
page-is (Err r) = refl
