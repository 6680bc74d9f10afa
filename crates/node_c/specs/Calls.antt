-- The calls for C, on images, rosters, partial keys and slices: what is returned, and what the whole output slice then holds.
use Rattle.std.specs.Prelude.{ℕ, ◌*◌, ◌%◌, List, Bool, cond, ◌||◌, eqb, leb, length}
use Rattle.binary.specs.Number.{overwrite}
use Rattle.node.specs.declared.Node.{Node}
use Rattle.state.specs.Time.{cycle, day}
use Rattle.roster.specs.Calls.{Outcome, import_of, export_of}
use Rattle.shares.specs.Calls.{split_of, merge_of, add_of}
use Rattle.std.specs.Prelude.{Result, Ok, Err}
use Rattle.refusals.specs.declared.Refusal.{Refusal}
use Rattle.refusals.specs.Refusals.{number_of, number_in}
use Rattle.node.specs.PageAnswer.{PageAnswer}
use Rattle.node.specs.PageAnswer as P
use Rattle.node.specs.Answers.{start_number, deliver_number, query_number, checkpoint_number}
use Rattle.node.specs.Start.{start_of}
use Rattle.node.specs.Deliver.{deliver_of}
use Rattle.node.specs.Query.{adds_miss, query_of}
use Rattle.node.specs.Checkpoint.{checkpoint_of, checkpoint_slice}
use Rattle.node.specs.Page.{page_of, page_slice}
use Rattle.image.specs.Layout.{image_size}
use Rattle.image.specs.Image.{image_bytes, read_image}

-- what a call by value hands back: a node, and its answer's number
pub record HandedBack : Type 0 where
  pub node : Node
  pub number : ℕ

abbrev pub started : List ℕ → List ℕ → HandedBack
started checkpoint start = record { node = (start_of checkpoint start).node; number = start_number (start_of checkpoint start).answer }

abbrev pub delivered : List ℕ → List ℕ → Node → HandedBack
delivered announcement sheet n =
    record { node = (deliver_of n announcement sheet).node; number = deliver_number (deliver_of n announcement sheet).answer }

abbrev pub asked : List ℕ → Node → HandedBack
asked query n = record { node = (query_of n query).node; number = query_number (query_of n query).answer }

-- what a call for C returns, and what its output slice then holds
pub record Returned : Type 0 where
  pub number : ℕ
  pub slice : List ℕ

-- "Calls that write a slice also try 22, straight after 1 and 2.": the number k of a call, where its slice has room or not
abbrev pub try_room : Bool → ℕ → ℕ
try_room room k = cond (eqb k 1 || eqb k 2) k (cond room k 22)

-- "A call that starts, votes, performs, answers open or adds a miss writes a whole image to its output slice; no other does."
abbrev pub writes_image : ℕ → Bool
writes_image k = eqb k 0 || (eqb k 128 || adds_miss k)

-- the call for C over a call by value
unfoldable pub return : HandedBack → List ℕ → Returned
return r out =
    let k = try_room (leb image_size (length out)) r.number in
    record { number = k; slice = cond (writes_image k) (overwrite (image_bytes r.node) out) out }

-- a call on the node in an image; 1 "checkpoint or image malformed"
abbrev pub on_node_in : List ℕ → List ℕ → (Node → Returned) → Returned
on_node_in image out f = cond (read_image image).ok (f (read_image image).node) (record { number = 1; slice = out })

unfoldable pub on_image : (Node → HandedBack) → List ℕ → List ℕ → Returned
on_image f image out = on_node_in image out (λ n. return (f n) out)

unfoldable pub node_start : List ℕ → List ℕ → List ℕ → Returned
node_start checkpoint start out = return (started checkpoint start) out

unfoldable pub node_deliver : List ℕ → List ℕ → List ℕ → List ℕ → Returned
node_deliver image announcement sheet out = on_image (delivered announcement sheet) image out

unfoldable pub node_query : List ℕ → List ℕ → List ℕ → Returned
node_query image query out = on_image (asked query) image out

unfoldable pub node_checkpoint : List ℕ → List ℕ → Returned
node_checkpoint image out =
    on_node_in image out (λ n. record { number = checkpoint_number (checkpoint_of n out).answer; slice = checkpoint_slice n out })

-- the answer in the low 8 bits, and the number of lines above them, which is 0 for a refusal
abbrev pub page_returned : PageAnswer → ℕ
page_returned (P.Given lines) = 256 * lines
page_returned (P.Refused k) = k

-- the page of the node in an image, for the given day d
unfoldable pub node_page : List ℕ → ℕ → List ℕ → Returned
node_page image d out = on_node_in image out (λ n. record { number = page_returned (page_of n out).answer; slice = page_slice n (day d) out })

-- ---- rosters, which ask nothing of a node

-- the answer in the low 8 bits, and above them what is given, the number of announcements or of shares or the length of a line, which is 0 for a refusal
abbrev pub value_returned : Result ℕ Refusal → ℕ
value_returned (Ok n) = 256 * n
value_returned (Err r) = number_of r

abbrev pub roster_return : Outcome → Returned
roster_return x = record { number = value_returned x.answer; slice = x.slice }

unfoldable pub node_roster_import : List ℕ → ℕ → ℕ → List ℕ → Returned
node_roster_import roster c d out = roster_return (import_of roster (cycle c) (day d) out)

unfoldable pub node_roster_export : List ℕ → List ℕ → Returned
node_roster_export announcement out = roster_return (export_of announcement out)

-- ---- partial keys, which ask nothing of a node

unfoldable pub node_shares_split : List ℕ → ℕ → ℕ → List ℕ → List ℕ → Returned
node_shares_split key k n coefficients out =
    let x = split_of key k n coefficients out in
    record { number = value_returned x.answer; slice = x.slice }

unfoldable pub node_shares_merge : ℕ → ℕ → List ℕ → List ℕ → List ℕ → Returned
node_shares_merge k n numbers shares out =
    let x = merge_of k n numbers shares out in
    record { number = number_in x.answer; slice = x.slice }

-- the number of bytes above the answer, where there are 24 bits: of a longer run the low 24 of its length
abbrev pub add_returned : Result ℕ Refusal → ℕ
add_returned (Ok bytes) = 256 * (bytes % 16777216)
add_returned (Err r) = number_of r

unfoldable pub node_shares_add : List ℕ → List ℕ → List ℕ → Returned
node_shares_add first second out =
    let x = add_of first second out in
    record { number = add_returned x.answer; slice = x.slice }
