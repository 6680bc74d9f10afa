-- A refused split, merge or sum leaves its slice as it was.
use mathlib.Core.Path.{◌≡◌, refl, sym, ap, ◌∙◌}
use mathlib.Core.Logic.{◌≢◌}
use mathlib.Core.List.{List}
use Prim.Native.Nat.{ℕ, ◌%◌}
use native.Mathlib.Omega.{arith}
use lib.ListN.{length}
use Rattle.lists.proofs.Tests.{clash}
use Rattle.std.specs.Prelude.{Result, Ok, Err}
use Rattle.refusals.specs.declared.Refusal.{Refusal}
use Rattle.shares.specs.Calls.{Outcome}
use Rattle.shares.specs.Claims.{SplitAnswering, MergeAnswering, bad-number}
use Rattle.shares.specs.Claims as C
use Rattle.shares.specs.Renewal.{AddAnswering}
use Rattle.shares.specs.Renewal as R
use Rattle.node_c.specs.Calls.{value_returned, add_returned}
use Rattle.refusals.specs.Refusals.{number_in}

-- the call is refused, and the slice is as it was, or it gives something
data Answered {A : Type 0} (given : A → Type 0) (out : List ℕ) (x : Outcome A) : Type 0 where
  refuses : x.slice ≡ out → Answered given out x
  gives : given x.answer → Answered given out x

module _ (out : List ℕ) where
  kept : {A : Type 0} {given : A → Type 0} (x : Outcome A) → Answered given out x → ¬ given x.answer → x.slice ≡ out
  kept x (refuses e) h = e
  kept x (gives g) h = absurd (h g)

  split-answered : (key : List ℕ) (k n : ℕ) (cs : List ℕ) (x : Outcome (Result ℕ Refusal)) → SplitAnswering key k n cs out x
      → Answered (λ a. a ≡ Ok n) out x
  split-answered key k n cs x (C.out_of_range r e) = refuses (ap (λ (y : Outcome (Result ℕ Refusal)). y.slice) e)
  split-answered key k n cs x (C.too_short r f e) = refuses (ap (λ (y : Outcome (Result ℕ Refusal)). y.slice) e)
  split-answered key k n cs x (C.given r a b d e) = gives (ap (λ (y : Outcome (Result ℕ Refusal)). y.answer) e)

  merge-answered : (k n : ℕ) (numbers shares : List ℕ) (x : Outcome (Result Unit Refusal)) → MergeAnswering k n numbers shares out x
      → Answered (λ a. a ≡ Ok tt) out x
  merge-answered k n numbers shares x (C.out_of_range r e) = refuses (ap (λ (y : Outcome (Result Unit Refusal)). y.slice) e)
  merge-answered k n numbers shares x (bad-number r f e) = refuses (ap (λ (y : Outcome (Result Unit Refusal)). y.slice) e)
  merge-answered k n numbers shares x (C.too_short r a f e) = refuses (ap (λ (y : Outcome (Result Unit Refusal)). y.slice) e)
  merge-answered k n numbers shares x (C.given r a b d f e) = gives (ap (λ (y : Outcome (Result Unit Refusal)). y.answer) e)

  add-answered : (first second : List ℕ) (x : Outcome (Result ℕ Refusal)) → AddAnswering first second out x → Answered (λ a. a ≡ Ok (length first)) out x
  add-answered first second x (R.too_short f e) = refuses (ap (λ (y : Outcome (Result ℕ Refusal)). y.slice) e)
  add-answered first second x (R.given a b e) = gives (ap (λ (y : Outcome (Result ℕ Refusal)). y.answer) e)

  pub split-kept : (key : List ℕ) (k n : ℕ) (cs : List ℕ) (x : Outcome (Result ℕ Refusal)) → SplitAnswering key k n cs out x
      → (j : Refusal) → x.answer ≡ Err j → x.slice ≡ out
  split-kept key k n cs x a j e = kept x (split-answered key k n cs x a) (λ g. let z : Err j ≡ Ok n = sym e ∙ g in clash (cc))

  pub split-returned-kept : (key : List ℕ) (k n : ℕ) (cs : List ℕ) (x : Outcome (Result ℕ Refusal)) → SplitAnswering key k n cs out x
      → value_returned x.answer % 256 ≢ 0 → x.slice ≡ out
  split-returned-kept key k n cs x a h = kept x (split-answered key k n cs x a) (λ g. h (rw g (omega arith)))

  pub merge-kept : (k n : ℕ) (numbers shares : List ℕ) (x : Outcome (Result Unit Refusal)) → MergeAnswering k n numbers shares out x
      → (j : Refusal) → x.answer ≡ Err j → x.slice ≡ out
  merge-kept k n numbers shares x a j e =
      kept x (merge-answered k n numbers shares x a) (λ g. let z : Err j ≡ Ok tt = sym e ∙ g in clash (cc))

  pub merge-returned-kept : (k n : ℕ) (numbers shares : List ℕ) (x : Outcome (Result Unit Refusal)) → MergeAnswering k n numbers shares out x
      → number_in x.answer ≢ 0 → x.slice ≡ out
  merge-returned-kept k n numbers shares x a h = kept x (merge-answered k n numbers shares x a) (λ g. h (rw g refl))

  pub add_kept : (first second : List ℕ) (x : Outcome (Result ℕ Refusal)) → AddAnswering first second out x → (j : Refusal) → x.answer ≡ Err j → x.slice ≡ out
  add_kept first second x a j e =
      kept x (add-answered first second x a) (λ g. let z : Err j ≡ Ok (length first) = sym e ∙ g in clash (cc))

  pub add-returned-kept : (first second : List ℕ) (x : Outcome (Result ℕ Refusal)) → AddAnswering first second out x → add_returned x.answer % 256 ≢ 0
      → x.slice ≡ out
  add-returned-kept first second x a h = kept x (add-answered first second x a) (λ g. h (rw g (omega arith)))
