-- Each call gives the lowest number that applies, and where it gives none, none applies.
use mathlib.Core.Path.{◌≡◌, refl, sym, ap, ◌∙◌}
use mathlib.Core.Logic.{◌≢◌, ◌⊎◌, inl, inr}
use mathlib.Core.Bool.{Bool, true, false}
use mathlib.Core.List.{List}
use Prim.Native.Nat.{ℕ, ◌≤◌}
use native.Mathlib.Decide.{dec_le}
use native.Mathlib.Omega.{arith}
use lib.Dec.{leb}
use lib.ListN.{length}
use borrow.Author.Tests.{leb-false, lt-leb}
use Rattle.state.specs.declared.Day.{Day}
use Rattle.checkpoint.specs.Layout.{checkpoint_size}
use Rattle.node.specs.declared.Node.{Node}
use Rattle.node.specs.Reply.{StartReply}
use Rattle.node.specs.Reply.{DeliverReply}
use Rattle.node.specs.Reply.{QueryReply}
use Rattle.node.specs.Answers.{start_number, deliver_number, query_number, checkpoint_number, page_number}
use Rattle.node.specs.Checkpoint.{checkpoint_of}
use Rattle.node.specs.Page.{page_fits, page_of}
use Rattle.node.specs.Claims as Comes
use Rattle.node.specs.Claims.{Starting, Delivery, Asking}
use Rattle.node.specs.Applies.{deliver, query, checkpoint, page, Asked, start, at, number_given, Tries}
use Rattle.node.specs.Applies.{Applies, no-3, no-6, no-22, no-23, GivesLowest, LowestIsGiven, NoneApplies}
use Rattle.refusals.proofs.UpTo.{UpTo}
use Rattle.node.proofs.Start.{start-comes-to}
use Rattle.node.proofs.Deliver.{deliver-comes-to}
use Rattle.node.proofs.Query.{query-comes-to}
use Rattle.node.proofs.StartLowest.{start-applies, start-up-to}
use Rattle.node.proofs.DeliverApplies.{deliver-applies}
use Rattle.node.proofs.DeliverLowest.{deliver-up-to}
use Rattle.node.proofs.QueryLowest.{query-applies, query-up-to}

-- ---- a number that is given applies

-- the number is tried and applies
abbrev Holds : Asked → ℕ → Type 0
Holds x k = Tries x k × Applies x k

starting : {cb sb : List ℕ} {r : StartReply} {k : ℕ} → Starting cb sb r → start_number r.answer ≡ k → k ≢ 0 → Holds (start cb sb) k
starting {cb} {sb} (Comes.refuses i y e) q z = rw (sym (ap (λ (r : StartReply). start_number r.answer) e) ∙ q) at (start-applies y)
starting (Comes.starts x rx rc active above e) q z = absurd (z (sym q ∙ ap (λ (r : StartReply). start_number r.answer) e))

delivering : {n : Node} {ab sb : List ℕ} {r : DeliverReply} {k : ℕ} → Delivery n ab sb r → deliver_number r.answer ≡ k → k ≢ 0 → k ≢ 128
    → Holds (at n (deliver ab sb)) k
delivering (Comes.refuses i y e) q z v = rw (sym (ap (λ (r : DeliverReply). deliver_number r.answer) e) ∙ q) at (deliver-applies y)
delivering (Comes.votes a acc few m e) q z v = absurd (v (sym q ∙ ap (λ (r : DeliverReply). deliver_number r.answer) e))
delivering (Comes.performs a acc enough e) q z v = absurd (z (sym q ∙ ap (λ (r : DeliverReply). deliver_number r.answer) e))

asking : {n : Node} {qb : List ℕ} {r : QueryReply} {k : ℕ} → Asking n qb r → query_number r.answer ≡ k → k ≢ 0 → Holds (at n (query qb)) k
asking (Comes.refuses i l y e) q z = rw (sym (ap (λ (r : QueryReply). query_number r.answer) e) ∙ q) at (query-applies y)
asking (Comes.misses i x l rx m y e) q z = rw (sym (ap (λ (r : QueryReply). query_number r.answer) e) ∙ q) at (query-applies y)
asking (Comes.opens x rx o e) q z = absurd (z (sym q ∙ ap (λ (r : QueryReply). query_number r.answer) e))

giving : (n : Node) (out : List ℕ) {k : ℕ} → checkpoint_number (checkpoint_of n out).answer ≡ k → k ≢ 0 → Holds (at n (checkpoint out)) k
unfolding checkpoint_of
giving n out {k} q z = by (leb checkpoint_size (length out)) refl
  where
    by : (b : Bool) → leb checkpoint_size (length out) ≡ b → Holds (at n (checkpoint out)) k
    by true e = absurd (z (sym q ∙ rw e))
    by false e = let w : k ≡ 22 = sym q ∙ rw e in (inr w, rw w (no-22 (leb-false _ _ e)))

paging : (n : Node) (given : Day) (out : List ℕ) {k : ℕ} → page_number (page_of n out).answer ≡ k → k ≢ 0 → Holds (at n (page given out)) k
unfolding page_of
paging n given out {k} q z = by (page_fits n out) refl
  where
    by : (b : Bool) → page_fits n out ≡ b → Holds (at n (page given out)) k
    by true e = absurd (z (sym q ∙ rw e))
    by false e = let w : k ≡ 23 = sym q ∙ rw e in (inr w, rw w (no-23 (leb-false _ _ e)))

holds : (x : Asked) (k : ℕ) → number_given x ≡ k → k ≢ 0 → k ≢ 128 → Holds x k
holds (start cb sb) k q z v = starting (start-comes-to cb sb) q z
holds (at n (deliver ab sb)) k q z v = delivering (deliver-comes-to n ab sb) q z v
holds (at n (query qb)) k q z v = asking (query-comes-to n qb) q z
holds (at n (checkpoint out)) k q z v = giving n out q z
holds (at n (page given out)) k q z v = paging n given out q z

-- ---- no number above one that applies is given

-- Checkpoint tries 1 and 22 only, page 1 and 23.
untried : {P : Type 0} {k j : ℕ} → (k ≡ 1) ⊎ (k ≡ j) → k ≢ 1 → k ≢ j → P
untried (inl e) a b = absurd (a e)
untried (inr e) a b = absurd (b e)

checkpoint-up-to : {n : Node} {out : List ℕ} {j : ℕ} → Tries (at n (checkpoint out)) j → Applies (at n (checkpoint out)) j
    → UpTo j (checkpoint_number (checkpoint_of n out).answer)
unfolding checkpoint_of
checkpoint-up-to t (no-3 h) = untried t (omega arith) (omega arith)
checkpoint-up-to t (no-6 h) = untried t (omega arith) (omega arith)
checkpoint-up-to t (no-22 h) = rw (lt-leb _ _ h) (omega arith)
checkpoint-up-to {n = n} {out = out} t (Rattle.node.specs.Applies.no-1 x5) = elim x5 [ ]
checkpoint-up-to {n = n} {out = out} t (Rattle.node.specs.Applies.no_9 x6) = elim x6 [ ]
checkpoint-up-to {n = n} {out = out} t (Rattle.node.specs.Applies.no-11 x7) = elim x7 [ ]
checkpoint-up-to {n = n} {out = out} t (Rattle.node.specs.Applies.no-13 x8) = elim x8 [ ]
checkpoint-up-to {n = n} {out = out} t (Rattle.node.specs.Applies.no-14 x9) = elim x9 [ ]

page-up-to : {n : Node} {given : Day} {out : List ℕ} {j : ℕ} → Tries (at n (page given out)) j → Applies (at n (page given out)) j
    → UpTo j (page_number (page_of n out).answer)
unfolding page_of
page-up-to t (no-3 h) = untried t (omega arith) (omega arith)
page-up-to t (no-6 h) = untried t (omega arith) (omega arith)
page-up-to t (no-23 h) = rw (lt-leb _ _ h) (omega arith)
page-up-to {n = n} {given = given} {out = out} t (Rattle.node.specs.Applies.no-1 x5) = elim x5 [ ]
page-up-to {n = n} {given = given} {out = out} t (Rattle.node.specs.Applies.no_9 x6) = elim x6 [ ]
page-up-to {n = n} {given = given} {out = out} t (Rattle.node.specs.Applies.no-11 x7) = elim x7 [ ]
page-up-to {n = n} {given = given} {out = out} t (Rattle.node.specs.Applies.no-13 x8) = elim x8 [ ]
page-up-to {n = n} {given = given} {out = out} t (Rattle.node.specs.Applies.no-14 x9) = elim x9 [ ]

up_to : (x : Asked) (j : ℕ) → Tries x j → Applies x j → UpTo j (number_given x)
up_to (start cb sb) j t h = start-up-to h
up_to (at n (deliver ab sb)) j t h = deliver-up-to t h
up_to (at n (query qb)) j t h = query-up-to t h
up_to (at n (checkpoint out)) j t h = checkpoint-up-to t h
up_to (at n (page given out)) j t h = page-up-to t h

-- No number that is tried is above 23.
tries-up-to : (x : Asked) (j : ℕ) → Tries x j → j ≤ 23
tries-up-to (start cb sb) j (inl t) = omega arith
tries-up-to (start cb sb) j (inr (inl t)) = omega arith
tries-up-to (start cb sb) j (inr (inr t)) = omega arith
tries-up-to (at n (deliver ab sb)) j t = omega arith
tries-up-to (at n (query qb)) j (inl t) = omega arith
tries-up-to (at n (query qb)) j (inr (inl t)) = omega arith
tries-up-to (at n (query qb)) j (inr (inr t)) = omega arith
tries-up-to (at n (checkpoint out)) j (inl t) = omega arith
tries-up-to (at n (checkpoint out)) j (inr t) = omega arith
tries-up-to (at n (page given out)) j (inl t) = omega arith
tries-up-to (at n (page given out)) j (inr t) = omega arith

-- ---- the claims

pub gives-lowest : GivesLowest
gives-lowest x k q z v =
    let p = holds x k q z v in
    record { tried = p.0; applies = p.1; none-lower = λ j t l h. (let u = up_to x j t h in omega arith) }

pub lowest-is-given : LowestIsGiven
lowest-is-given x k l = by (dec_le k (number_given x))
  where
    by : Dec (k ≤ number_given x) → number_given x ≡ k
    by (yes h) = let u = up_to x k l.tried l.applies in omega arith
    by (no h) =
        let u = up_to x k l.tried l.applies in
        let most = tries-up-to x k l.tried in
        let p = holds x (number_given x) refl (omega arith) (omega arith) in
        absurd (l.none-lower (number_given x) p.0 (omega arith) p.1)

pub none-applies : NoneApplies
none-applies x (inl q) j t h = let u = up_to x j t h in omega arith
none-applies x (inr q) j t h = let u = up_to x j t h in let most = tries-up-to x j t in omega arith
