-- What follows a whole request changes nothing in what becomes of it.
use Prim.Native.Nat.{ℕ, zero, suc, ◌+◌, ◌*◌, ◌≤◌}
use native.Mathlib.Omega.{arith}
use mathlib.Core.Path.{◌≡◌, refl, ap}
use mathlib.Core.Bool.{Bool, true, false, cond, ◌&&◌, or-true, and-eq-true_iff}
use mathlib.Core.List.{List, [], ◌∷◌, ◌++◌}
use lib.Dec.{eqb, leb}
use lib.ListN.{length, take, drop, length-append, length-drop}
use lib.Seq.{take-append-le, drop-append-le}
use borrow.Author.Tests.{le-leb}
use Rattle.binary.specs.Number.{from_bytes, field}
use Rattle.records.specs.Layout.{kind_start}
use Rattle.node.specs.declared.Node.{Node}
use Rattle.lists.proofs.Tests.{cond_cases}
use Rattle.requests.specs.declared.Frame.{Frame}
use Rattle.std.specs.Prelude.{Option, Some, None}
use Rattle.requests.specs.declared.Step.{Step}
use Rattle.requests.specs.Framing.{record_head, size_of, kind_of, is_announcement, is_query, is_checkpoint_kind, is_sheet_kind, least_size, has_second}
use Rattle.requests.specs.Framing.{holds_record, frame_of, holds_request}
use Rattle.node.specs.Start.{start_of}
use Rattle.node.specs.Deliver.{deliver_of}
use Rattle.requests.specs.Requests.{is_none, cuts, answers, deliver_answer, after_start, with_second, step_start, step_deliver, step_query, placed, step_of}
use Rattle.requests.specs.Claims.{MoreInput}
use Rattle.requests.proofs.Frames.{record-heads, record-fits, frame-fits}

cond_both : (t : Bool) {x x' y y' : Step} → (t ≡ true → x ≡ x') → (t ≡ false → y ≡ y') → cond t x y ≡ cond t x' y'
cond_both true f g = f refl
cond_both false f g = g refl

module _ (c : List ℕ) where
  number-front : (w : ℕ) (b : List ℕ) → w ≤ length b → from_bytes w (b ++ c) ≡ from_bytes w b
  unfolding from_bytes
  number-front zero b h = refl
  number-front (suc w) [] h = absurd (omega arith)
  number-front (suc w) (x ∷ b) h = ap (λ (k : ℕ). x + 256 * k) (number-front w b (omega arith))

  field-front : (w at : ℕ) (b : List ℕ) → at + w ≤ length b → field w at (b ++ c) ≡ field w at b
  field-front w at b h = rw (drop-append-le at b c (omega arith)) (number-front w (drop at b) (rw (length-drop at b) (omega arith)))

  size-front : (b : List ℕ) → holds_record b ≡ true → size_of (b ++ c) ≡ size_of b
  size-front b h = let k = record-heads b h in ap (λ (x : ℕ). x + 2) (field-front 2 0 b (omega arith))

  holds-front : (b : List ℕ) → holds_record b ≡ true → holds_record (b ++ c) ≡ true
  unfolding holds_record
  holds-front b h =
      let k = record-heads b h in
      let m = record-fits b h in
      let all = length b + length c in
      rw (size-front b h, length-append b c, le-leb record_head all (omega arith), le-leb (size_of b) all (omega arith)) refl

  frame-front : (b : List ℕ) → holds_record b ≡ true → frame_of (b ++ c) ≡ frame_of b
  unfolding frame_of
  frame-front b h =
      let k = record-heads b h in
      rw (holds-front b h, h, size-front b h, field-front 2 2 b (omega arith)) refl

  second-front : (n : Node) (fits : ℕ → Bool) (f : ℕ → List ℕ → Step) (b : List ℕ) → holds_record b ≡ true
      → with_second n fits f (b ++ c) (frame_of (b ++ c)) ≡ with_second n fits f b (frame_of b)
  second-front n fits f b h = rw (frame-front b h) (go (frame_of b) refl)
    where
      go : (x : Option Frame) → frame_of b ≡ x → with_second n fits f (b ++ c) x ≡ with_second n fits f b x
      go None e = refl
      go (Some x) e = ap (λ (v : List ℕ). cond (fits x.kind) (f x.size v) (cuts n)) (take-append-le x.size b c (frame-fits b x.size x.kind e))

  module _ (n : Node) (b : List ℕ) (size : ℕ) (fits : size ≤ length b) where
    start-front : holds_record (drop size b) ≡ true → step_start n size (b ++ c) ≡ step_start n size b
    unfolding step_start
    start-front h = rw (take-append-le size b c fits, drop-append-le size b c fits) (second-front n is_checkpoint_kind (λ more sb. after_start n (size + more) (start_of sb (take size b))) (drop size b) h)

    deliver-front : holds_record (drop size b) ≡ true → step_deliver n size (b ++ c) ≡ step_deliver n size b
    unfolding step_deliver
    deliver-front h = rw (take-append-le size b c fits, drop-append-le size b c fits) (second-front n is_sheet_kind (λ more sb. answers (deliver_of n (take size b) sb).node (deliver_answer (deliver_of n (take size b) sb).answer) (size + more)) (drop size b) h)

    query-front : step_query n size (b ++ c) ≡ step_query n size b
    unfolding step_query
    query-front = rw (take-append-le size b c fits) refl

  placed-front : (n : Node) (b : List ℕ) → holds_request b ≡ true → placed n (b ++ c) (frame_of b) ≡ placed n b (frame_of b)
  unfolding frame_of holds_request
  placed-front n b h =
      let t = simp and-eq-true_iff at h in
      let fits = record-fits b t.0 in
      let second : has_second (kind_of b) ≡ true → holds_record (drop (size_of b) b) ≡ true = λ s. rw s at t.1 in
      cond_cases (λ (x : Option Frame). placed n (b ++ c) x ≡ placed n b x) (holds_record b && leb (least_size (kind_of b)) (size_of b))
      (λ _. cond_both (eqb (kind_of b) kind_start)
      (λ e. start-front n b (size_of b) fits (second (rw e (or-true (is_announcement (kind_of b))))))
      (λ _. cond_both (is_none n) (λ _. refl)
      (λ _. cond_both (is_query (kind_of b)) (λ _. query-front n b (size_of b) fits)
      (λ _. cond_both (is_announcement (kind_of b)) (λ e. deliver-front n b (size_of b) fits (second (rw e refl))) (λ _. refl)))))
      (λ _. refl)

pub more-input : MoreInput
unfolding step_of holds_request
more-input n b c h =
    let t = simp and-eq-true_iff at h in
    rw (frame-front c b t.0) (placed-front c n b h)
