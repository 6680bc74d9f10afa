-- What becomes of a request: it is cut, or the input holds it whole and a call answers it.
use mathlib.Core.Path.{◌≡◌, refl}
use mathlib.Core.Bool.{Bool, true, false, ◌||◌}
use mathlib.Core.List.{List}
use Prim.Native.Nat.{ℕ, ◌+◌, ◌≤◌}
use native.Mathlib.Omega.{arith}
use lib.Dec.{eqb}
use lib.ListN.{length, take, drop}
use borrow.Author.Tests.{eqb-true}
use Rattle.records.specs.Layout.{kind_start, kind_query, kind_door_query}
use Rattle.node.specs.declared.Node.{Node}
use Rattle.node.specs.Start.{start_of}
use Rattle.node.specs.Deliver.{deliver_of}
use Rattle.node.specs.Query.{query_of}
use Rattle.lists.proofs.Tests.{cond_cases}
use Rattle.requests.specs.declared.Frame.{Frame}
use Rattle.std.specs.Prelude.{Option, Some, None}
use Rattle.requests.specs.declared.Step.{Step}
use Rattle.requests.specs.Framing.{framed, is_announcement, is_query, is_checkpoint_kind, is_sheet_kind, frame_of, has_second, holds_request}
use Rattle.requests.specs.Requests.{is_none, cuts, answers, deliver_answer, query_answer, after_start, with_second, placed, step_of}
use Rattle.requests.specs.Requests.{step_start, step_deliver, step_query}
use Rattle.requests.proofs.Frames.{frame-fits, frame-some, frame-held, second_fits, one-held, two-held}

-- the request at the front of b is whole and has that many bytes
pub record Whole (b : List ℕ) (used : ℕ) : Type 0 where
  pub some : 1 ≤ used
  pub fits : used ≤ length b
  pub held : holds_request b ≡ true

query-alone : (kind : ℕ) → is_query kind ≡ true → has_second kind ≡ false
query-alone kind = go (eqb kind kind_query) refl
  where
    go : (t : Bool) → eqb kind kind_query ≡ t → (t || eqb kind kind_door_query) ≡ true → has_second kind ≡ false
    go true t e = let k : kind ≡ kind_query = eqb-true _ _ t in rw k refl
    go false t e = let k : kind ≡ kind_door_query = eqb-true _ _ e in rw k refl

whole-one : (b : List ℕ) (size kind : ℕ) → frame_of b ≡ framed size kind → is_query kind ≡ true → Whole b size
whole-one b size kind e t = record {
  some = frame-some b size kind e;
  fits = frame-fits b size kind e;
  held = one-held b size kind (query-alone kind t) e;
}

whole-two : (b : List ℕ) (size kind more k : ℕ) → frame_of b ≡ framed size kind → frame_of (drop size b) ≡ framed more k
    → Whole b (size + more)
whole-two b size kind more k e g =
    let s = frame-some b size kind e in
    record {
      some = omega arith;
      fits = second_fits b size more k (frame-fits b size kind e) g;
      held = two-held b size kind (frame-held (drop size b) more k g) e;
    }

-- what holds in each of these cases holds of the step
module _ (n : Node) (b : List ℕ) (P : Step → Type 0)
    (cut : P (cuts n))
    (start : (used : ℕ) (cb sb : List ℕ) → Whole b used → P (after_start n used (start_of cb sb)))
    (deliver : (used : ℕ) (ab sb : List ℕ) → Whole b used
    → P (answers (deliver_of n ab sb).node (deliver_answer (deliver_of n ab sb).answer) used))
    (query : (used : ℕ) (qb : List ℕ) → Whole b used → P (answers (query_of n qb).node (query_answer (query_of n qb).answer) used)) where
  second-cases : (fits : ℕ → Bool) (f : ℕ → List ℕ → Step) (rest : List ℕ) (x : Option Frame)
      → ((size k : ℕ) → x ≡ framed size k → P (f size (take size rest))) → P (with_second n fits f rest x)
  second-cases fits f rest None h = cut
  second-cases fits f rest (Some x) h = cond_cases P (fits x.kind) (λ _. h x.size x.kind refl) (λ _. cut)

  placed-cases : (x : Option Frame) → frame_of b ≡ x → P (placed n b x)
  unfolding step_start step_deliver step_query
  placed-cases None e = cut
  placed-cases (Some x) e =
      let size = x.size in
      let kind = x.kind in
      let rest = drop size b in
      let two : (more k : ℕ) → frame_of rest ≡ framed more k → Whole b (size + more) = λ more k g. whole-two b size kind more k e g in
      cond_cases P (eqb kind kind_start)
      (λ _. second-cases is_checkpoint_kind (λ more sb. after_start n (size + more) (start_of sb (take size b))) rest (frame_of rest) (λ more k g. start (size + more) (take more rest) (take size b) (two more k g)))
      (λ _. cond_cases P (is_none n) (λ _. cut)
      (λ _. cond_cases P (is_query kind) (λ t. query size (take size b) (whole-one b size kind e t))
      (λ _. cond_cases P (is_announcement kind)
      (λ _. second-cases is_sheet_kind (λ more sb. answers (deliver_of n (take size b) sb).node (deliver_answer (deliver_of n (take size b) sb).answer) (size + more)) rest (frame_of rest) (λ more k g. deliver (size + more) (take size b) (take more rest) (two more k g)))
      (λ _. cut))))

  pub step-cases : P (step_of n b)
  unfolding step_of
  step-cases = placed-cases (frame_of b) refl
