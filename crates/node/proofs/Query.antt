-- What a query comes to.
use mathlib.Core.Path.{◌≡◌, refl}
use mathlib.Core.Bool.{Bool, true, false, not, ◌&&◌, and-eq-true_iff, true≢false}
use mathlib.Core.List.{List}
use Prim.Native.Nat.{ℕ, ◌≤◌, ◌<◌}
use native.Mathlib.Omega.{arith}
use lib.Dec.{eqb, leb}
use borrow.Author.Tests.{eqb-true, eqb-false, leb-true, le-leb, leb-false, ltb-true, ltb-false, not-true, not-false}
use Rattle.lists.proofs.Tests.{cond_cases}
use Rattle.state.specs.declared.Day.{Day}
use Rattle.state.specs.declared.Login.{Login}
use Rattle.state.specs.Time.{later_day}
use Rattle.state.specs.Rows.{is_login, is_ended, is_silent, holds_right}
use Rattle.tables.specs.Logins.{find_login, is_listed}
use Rattle.records.specs.declared.Query.{Query}
use Rattle.std.specs.Prelude.{Option, Some, None}
use Rattle.records.specs.StartQuery.{read_query}
use Rattle.refusals.proofs.Chains.{unrefused, passes-rule, by-rule, refused, not-zero}
use Rattle.node.specs.declared.Node.{Node}
use Rattle.node.proofs.Numbers.{query-numbers}
use Rattle.node.specs.Reply.{CountedAnswer}
use Rattle.node.specs.Reply.{QueryReply}
use Rattle.verdicts.specs.Own.{is_halted}
use Rattle.verdicts.specs.Attempts.{most_misses, misses_at, are_in_range}
use Rattle.verdicts.proofs.Misses.{none_above, some-above}
use Rattle.verdicts.specs.Verdicts.{login_refusal, query_refusal}
use Rattle.node.specs.Query.{adds_miss, answered, ask_record, ask_of, with_counts, query_of}
use Rattle.node.specs.Claims.{QueryRefused, malformed, count-above, halted, locked, silent, unlisted, ended, right-not-held}
use Rattle.node.specs.Claims.{Opens, Asking, refuses, misses, opens, QueryComesTo}

-- a number that adds a miss is at least 19
pub adds-from : (k : ℕ) → adds_miss k ≡ true → 19 ≤ k
adds-from k e = let t = simp and-eq-true_iff at e in leb-true 19 k t.0

module _ (n : Node) (qb : List ℕ) (q : Query) (rq : read_query qb ≡ Some q) where
  t : Day
  t = later_day q.day n.state.day

  row : Login
  row = find_login q.login n.state.logins

  -- none of the rules 3 and 17 to 21 applies
  opened : are_in_range n.counts ≡ true → query_refusal n.state n.own n.counts q ≡ 0 → Opens n q
  unfolding query_refusal login_refusal is_listed t row
  opened r z =
      let p3 = passes-rule (is_halted n.state n.own) 3 _ refl z in
      let p17 = passes-rule (leb most_misses (misses_at q.door n.counts)) 17 _ refl p3.1 in
      let p18 = passes-rule (is_silent n.state.day n.state.minima.silence t) 18 _ refl p17.1 in
      let p19 = passes-rule (not (is_login row)) 19 _ refl p18.1 in
      let p20 = passes-rule (is_ended t row) 20 _ refl p19.1 in
      record {
        none_above = none_above n.counts r;
        running = eqb-false _ _ p3.0;
        unlocked = leb-false _ _ p17.0;
        within-silence = ltb-false _ _ p18.0;
        listed = not-false _ p19.0;
        not-ended = ltb-false _ _ p20.0;
        right-held = not-false _ (unrefused (not (holds_right q.right row)) 21 refl p20.1);
      }

  -- why a number k is given, and that a miss is added only to fewer than 10
  unfoldable pub Why : ℕ → Type 0
  Why k = QueryRefused n qb k × (adds_miss k ≡ true → misses_at q.door n.counts < most_misses)

  pub why : (k : ℕ) → 1 ≤ k → query_refusal n.state n.own n.counts q ≡ k → Why k
  unfolding query_refusal login_refusal is_listed t row Why
  why k h =
      by-rule (is_halted n.state n.own) 3 _ k refl
      (λ e a. (halted q e rq (eqb-true _ _ a), λ l. absurd (let h = adds-from k l in omega arith)))
      (λ _. by-rule (leb most_misses (misses_at q.door n.counts)) 17 _ k refl
      (λ e a. (locked q e rq (leb-true _ _ a), λ l. absurd (let h = adds-from k l in omega arith)))
      (λ m. by-rule (is_silent n.state.day n.state.minima.silence t) 18 _ k refl
      (λ e a. (silent q e rq (ltb-true _ _ a), λ l. absurd (let h = adds-from k l in omega arith)))
      (λ _. by-rule (not (is_login row)) 19 _ k refl (λ e a. (unlisted q e rq (not-true _ a), λ l. leb-false _ _ m))
      (λ l. by-rule (is_ended t row) 20 _ k refl (λ e a. (ended q e rq (not-false _ l) (ltb-true _ _ a), λ _. leb-false _ _ m))
      (λ _ e.
      let r = refused (not (holds_right q.right row)) 21 k h e in
      (right-not-held q r.0 rq (not-false _ l) (not-true _ r.1), λ _. leb-false _ _ m))))))

-- a number of a query that adds no miss is at most 18
no-miss : (k : ℕ) → k ≤ 21 → adds_miss k ≡ false → k ≤ 18
no-miss k h e = at (leb 19 k) refl (rw (le-leb k 21 h) at e)
  where
    at : (b : Bool) → leb 19 k ≡ b → (b && true) ≡ false → k ≤ 18
    at true f g = absurd (true≢false g)
    at false f g = let l = leb-false 19 k f in omega arith

-- the node's reply, from an answer with the counts after it
abbrev reply : Node → CountedAnswer → QueryReply
reply n r = record { node = with_counts r.counts n; answer = r.answer }

-- the reply to a refusal number k that is not 0
by_number : (n : Node) (qb : List ℕ) (q : Query) (k : ℕ) → read_query qb ≡ Some q → eqb k 0 ≡ false → QueryRefused n qb k
    → (adds_miss k ≡ true → misses_at q.door n.counts < most_misses) → Asking n qb (reply n (answered n.counts q.door k))
unfolding answered
by_number n qb q k rq z r f =
    rw z
    (cond_cases (λ (x : CountedAnswer). Asking n qb (reply n x)) (adds_miss k)
    (λ h. let t = simp and-eq-true_iff at h in misses k q (leb-true 19 k t.0) rq (f h) r refl)
    (λ h. refuses k (no-miss k (query-numbers r).1 h) r refl))

by-record : (n : Node) (qb : List ℕ) (o : Option Query) → read_query qb ≡ o → Asking n qb (reply n (ask_record n.state n.own n.counts o))
unfolding answered Why
by-record n qb None e = refuses 1 (omega arith) (malformed refl e) refl
by-record n qb (Some q) e =
    cond_cases (λ (x : CountedAnswer). Asking n qb (reply n x)) (are_in_range n.counts) (λ r. at r (eqb k 0) refl)
    (λ r. let above = some-above n.counts r in refuses 1 (omega arith) (count-above above.0 refl above.1) refl)
  where
    k : ℕ
    k = query_refusal n.state n.own n.counts q

    at : are_in_range n.counts ≡ true → (b : Bool) → eqb k 0 ≡ b → Asking n qb (reply n (answered n.counts q.door k))
    at r true z = opens q e (opened n qb q e r (eqb-true _ _ z)) (rw z)
    at r false z = let w = why n qb q e k (not-zero _ z) refl in by_number n qb q k e z w.0 w.1

pub query-comes-to : QueryComesTo
unfolding query_of ask_of
query-comes-to n qb = by-record n qb (read_query qb) refl

-- a query leaves the state as it was
pub query-keeps-state : (n : Node) (qb : List ℕ) → (query_of n qb).node.state ≡ n.state
unfolding query_of
query-keeps-state n qb = refl
