-- The number that a query gives is the lowest that applies.
use mathlib.Core.Path.{◌≡◌, refl, sym, ap}
use mathlib.Core.Logic.{inl, inr}
use mathlib.Core.Bool.{true, not}
use mathlib.Core.List.{List}
use Prim.Native.Nat.{ℕ, ◌≤◌, ◌<◌}
use native.Mathlib.Omega.{arith}
use lib.Dec.{eqb, leb}
use borrow.Author.Tests.{eqb-true, eq-eqb, le-leb, lt-ltb}
use Rattle.lists.proofs.Tests.{cond_cases}
use Rattle.state.specs.Time.{later_day}
use Rattle.state.specs.Rows.{is_login, is_ended, is_silent, holds_right}
use Rattle.tables.specs.Logins.{find_login, is_listed}
use Rattle.records.specs.declared.Query.{Query}
use Rattle.std.specs.Prelude.{Option, Some, None}
use Rattle.records.specs.StartQuery.{read_query}
use Rattle.verdicts.specs.Own.{is_halted}
use Rattle.verdicts.specs.declared.AttemptCounts.{AttemptCounts}
use Rattle.verdicts.specs.Attempts.{most_misses, misses_at, are_in_range}
use Rattle.verdicts.proofs.Misses.{none_above}
use Rattle.verdicts.specs.Verdicts.{login_refusal, query_refusal}
use Rattle.node.specs.declared.Node.{Node}
use Rattle.node.specs.Reply.{CountedAnswer}
use Rattle.node.specs.Answers.{query_number}
use Rattle.node.specs.Query.{adds_miss, answered, ask_of, query_of}
use Rattle.node.specs.Claims.{QueryRefused, malformed, count-above, halted, locked, silent, unlisted, ended, right-not-held}
use Rattle.node.specs.Applies.{query, at, number_given, Tries, Applies, of-query, of-count}
use Rattle.node.specs.Applies.{no-1, no-3, no-6, no-17, no-18, no-19, no-20, no-21}
use Rattle.refusals.proofs.UpTo.{UpTo, reaches}

-- ---- a number that is given applies

pub query-applies : {n : Node} {qb : List ℕ} {k : ℕ} → QueryRefused n qb k → Tries (at n (query qb)) k × Applies (at n (query qb)) k
query-applies (malformed e r) = (inl e, rw e (no-1 (of-query r)))
query-applies (count-above door e r) = (inl e, rw e (no-1 (of-count door r)))
query-applies (halted q e rq r) = (inr (inl e), rw e (no-3 r))
query-applies (locked q e rq r) = (inr (inr (omega arith)), rw e (no-17 rq r))
query-applies (silent q e rq r) = (inr (inr (omega arith)), rw e (no-18 rq r))
query-applies (unlisted q e rq r) = (inr (inr (omega arith)), rw e (no-19 rq r))
query-applies (ended q e rq l r) = (inr (inr (omega arith)), rw e (no-20 rq l r))
query-applies (right-not-held q e rq l r) = (inr (inr (omega arith)), rw e (no-21 rq l r))

-- ---- no number above one that applies is given

-- the number of the answer
pub answer-number : (c : AttemptCounts) (door k : ℕ) → query_number (answered c door k).answer ≡ k
unfolding answered
answer-number c door k =
    cond_cases (λ (r : CountedAnswer). query_number r.answer ≡ k) (eqb k 0) (λ e. sym (eqb-true k 0 e))
    (λ _. cond_cases (λ (r : CountedAnswer). query_number r.answer ≡ k) (adds_miss k) (λ _. refl) (λ _. refl))

module _ (n : Node) (qb : List ℕ) {j : ℕ} where
  by_read : (q : Query) → read_query qb ≡ Some q → UpTo j (query_refusal n.state n.own n.counts q) → UpTo j (number_given (at n (query qb)))
  unfolding query_of ask_of
  by_read q rq h =
      rw rq
      (cond_cases (λ (r : CountedAnswer). UpTo j (query_number r.answer)) (are_in_range n.counts)
      (λ _. rw (answer-number n.counts q.door) h) (λ _. omega arith))

  by-query : 1 ≤ j → ((q : Query) → UpTo j (query_refusal n.state n.own n.counts q)) → UpTo j (number_given (at n (query qb)))
  unfolding query_of ask_of
  by-query l f = by (read_query qb) refl
    where
      by : (o : Option Query) → read_query qb ≡ o → UpTo j (number_given (at n (query qb)))
      by None e = rw e (omega arith)
      by (Some q) e = by_read q e (f q)

  -- a count above the most refuses every query
  by_count : 1 ≤ j → (door : ℕ) → most_misses < misses_at door n.counts → UpTo j (number_given (at n (query qb)))
  unfolding query_of ask_of
  by_count l door h = by (read_query qb) refl
    where
      by : (o : Option Query) → read_query qb ≡ o → UpTo j (number_given (at n (query qb)))
      by None e = rw e (omega arith)
      by (Some q) e =
          rw e
          (cond_cases (λ (r : CountedAnswer). UpTo j (query_number r.answer)) (are_in_range n.counts)
          (λ r. absurd (let k = none_above n.counts r door in omega arith)) (λ _. omega arith))

pub query-up-to : {n : Node} {qb : List ℕ} {j : ℕ} → Tries (at n (query qb)) j → Applies (at n (query qb)) j → UpTo j (number_given (at n (query qb)))
unfolding query_of ask_of query_refusal login_refusal is_listed
query-up-to {n} {qb} t (no-1 (of-query e)) = rw e (omega arith)
query-up-to {n} {qb} t (no-1 (of-count door h)) = by_count n qb (omega arith) door h
query-up-to {n} {qb} t (no-3 h) =
    let e : is_halted n.state n.own ≡ true = eq-eqb _ _ h in
    by-query n qb (omega arith) (λ q. search reaches depth 12)
query-up-to {n} {qb} (inl t) (no-6 h) = absurd (omega arith)
query-up-to {n} {qb} (inr (inl t)) (no-6 h) = absurd (omega arith)
query-up-to {n} {qb} (inr (inr t)) (no-6 h) = absurd (omega arith)
query-up-to {n} {qb} t (no-17 {q = q} rq h) =
    let e : leb most_misses (misses_at q.door n.counts) ≡ true = le-leb _ _ h in
    by_read n qb q rq (search reaches depth 12)
query-up-to {n} {qb} t (no-18 {q = q} rq h) =
    let e : is_silent n.state.day n.state.minima.silence (later_day q.day n.state.day) ≡ true = lt-ltb _ _ h in
    by_read n qb q rq (search reaches depth 12)
query-up-to {n} {qb} t (no-19 {q = q} rq h) =
    let e : not (is_login (find_login q.login n.state.logins)) ≡ true = ap not h in
    by_read n qb q rq (search reaches depth 12)
query-up-to {n} {qb} t (no-20 {q = q} rq l h) =
    let e : is_ended (later_day q.day n.state.day) (find_login q.login n.state.logins) ≡ true = lt-ltb _ _ h in
    by_read n qb q rq (search reaches depth 12)
query-up-to {n} {qb} t (no-21 {q = q} rq l h) =
    let e : not (holds_right q.right (find_login q.login n.state.logins)) ≡ true = ap not h in
    by_read n qb q rq (search reaches depth 12)
query-up-to {n = n} {qb = qb} t (Rattle.node.specs.Applies.no_9 x5) = elim x5 [ ]
query-up-to {n = n} {qb = qb} t (Rattle.node.specs.Applies.no-11 x6) = elim x6 [ ]
query-up-to {n = n} {qb = qb} t (Rattle.node.specs.Applies.no-13 x7) = elim x7 [ ]
query-up-to {n = n} {qb = qb} t (Rattle.node.specs.Applies.no-14 x8) = elim x8 [ ]
