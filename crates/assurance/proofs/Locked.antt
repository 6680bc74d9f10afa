-- Ten misses in a row at one door of a host lock that door, and no other.
use mathlib.Core.Path.{◌≡◌, refl, sym, ap, ◌∙◌, subst}
use mathlib.Core.Logic.{◌≢◌, inl, inr}
use mathlib.Core.Bool.{not}
use mathlib.Core.List.{List, [], ◌∷◌}
use mathlib.Core.Option.{some}
use Prim.Native.Nat.{ℕ, suc, ◌+◌, ◌<◌}
use native.Mathlib.Omega.{arith}
use lib.ListN.{length}
use lib.Seq.{get_or-set_same, get_or-set_other}
use borrow.Author.Tests.{eq-eqb, ne_eqb, le-leb}
use Rattle.state.specs.Seats.{retired}
use Rattle.records.specs.declared.Query.{Query}
use Rattle.std.specs.Prelude.{Some}
use Rattle.records.specs.Layout.{door_count}
use Rattle.records.specs.StartQuery.{read_query}
use Rattle.verdicts.specs.Own.{held_seat}
use Rattle.verdicts.specs.Attempts.{most_misses, misses_at}
use Rattle.verdicts.specs.Verdicts.{query_refusal}
use Rattle.node.specs.declared.Node.{Node}
use Rattle.node.specs.QueryAnswer.{QueryAnswer}
use Rattle.node.specs.QueryAnswer.{Refused}
use Rattle.node.specs.Answers.{query_number}
use Rattle.node.specs.Query.{answered, ask_of, query_of}
use Rattle.node.specs.WellFormed.{WellFormedNode}
use Rattle.node.specs.Claims.{one_miss_more}
use Rattle.node.specs.Applies as Table
use Rattle.node.proofs.Query.{query-comes-to}
use Rattle.node.proofs.Lowest.{gives-lowest}
use Rattle.node.proofs.WellFormedNodes.{query-keeps-well-formed}
use Rattle.image.specs.Layout.{image_size}
use Rattle.node_c.specs.Calls.{asked}
use Rattle.agreement.specs.History.{Host, by_value, through_c, Call, query, History, Cluster, Outcome, node_at, run}
use Rattle.agreement.specs.Claims.{run_all}
use Rattle.agreement.proofs.Calls.{leave, on_host, run-query, written-left}
use Rattle.assurance.specs.Refusals.{AddsMiss}
use Rattle.assurance.specs.Doors.{SameAt, AddsMissAt, AllMiss, HasRoom, TenLockOne}
use Rattle.assurance.proofs.Refusals.{query-misses}
use Rattle.assurance.proofs.Hosts.{leave-here}
use Rattle.assurance.proofs.OneDoor.{doors, query-same}
use Rattle.assurance.proofs.Outcomes.{number_at, on_some}

-- ---- a node by value

-- m is node n after so many misses at door d
record After (d : ℕ) (n m : Node) (misses : ℕ) : Type 0 where
  fine : WellFormedNode m
  state : m.state ≡ n.state
  own : m.own ≡ n.own
  count : misses_at d m.counts ≡ misses_at d n.counts + misses
  others : (e : ℕ) → e ≢ d → misses_at e m.counts ≡ misses_at e n.counts

one_more : (d : ℕ) → d < door_count → (n : Node) → WellFormedNode n → WellFormedNode (one_miss_more d n) → After d n (one_miss_more d n) 1
one_more d l n w f = record {
  fine = f;
  state = refl;
  own = refl;
  count = get_or-set_same n.counts.misses d _ 0 (omega (arith, doors n w));
  others = λ e h. get_or-set_other n.counts.misses d e _ 0 h;
}

then : {d : ℕ} {n m k : Node} {j : ℕ} → After d n m 1 → After d m k j → After d n k (suc j)
then a b = record {
  fine = b.fine;
  state = b.state ∙ a.state;
  own = b.own ∙ a.own;
  count = omega (arith, a.count, b.count);
  others = λ e h. b.others e h ∙ a.others e h;
}

-- a query that adds a miss is answered by a node that is not halted
missed-running : (n : Node) (qb : List ℕ) → AddsMiss (query_number (query_of n qb).answer) → (held_seat n.state n.own).standing ≢ retired
missed-running n qb m r =
    (gives-lowest (Table.at n (Table.query qb)) (query_number (query_of n qb).answer) refl (λ z. omega arith) (λ z. omega arith)
    ).none-lower 3 (inr (inl refl)) (omega arith) (Table.no-3 r)

-- rule 17 where the node is not halted
locked-by : (m : Node) → WellFormedNode m → (held_seat m.state m.own).standing ≢ retired → (qb : List ℕ) (q : Query) → read_query qb ≡ Some q
    → misses_at q.door m.counts ≡ most_misses → (query_of m qb).answer ≡ Refused 17
unfolding query_of ask_of query_refusal answered
locked-by m w runs qb q rq e = rw (rq, w.counts, ne_eqb _ _ runs, le-leb most_misses (misses_at q.door m.counts) (omega arith))

-- ---- a host

-- what a query is answered, of the node that the host holds
answer_at : (w : Cluster) (h : Host) (n : Node) → node_at w h ≡ some n → WellFormedNode n → (qb out : List ℕ)
    → (run w (query h qb out)).answer ≡ some (number_at h out (query_number (query_of n qb).answer))
answer_at w h n e f qb out =
    ap (λ (x : Outcome). x.answer) (run-query w h qb out ∙ on_some w h (asked qb) out n e (query-keeps-well-formed n qb f))

-- 17 is not hidden by 22
in-room : (h : Host) (out : List ℕ) → HasRoom h out → number_at h out 17 ≡ 17
in-room (by_value i) out r = refl
in-room (through_c i) out r = rw (le-leb image_size (length out) r)

module _ (h : Host) (d : ℕ) where
  module _ (w : Cluster) (n : Node) (e : node_at w h ≡ some n) (f : WellFormedNode n) where
    -- a miss at the host is one of its node, which is left there
    heard : (c : Call) (a : AddsMissAt h d w c)
        → AddsMiss (query_number (query_of n a.bytes).answer) × ((run w c).after ≡ leave w h (query_of n a.bytes).node)
    heard c a =
        let qb = a.bytes in
        let is : run w c ≡ on_host w h (asked qb) a.out = ap (run w) a.called ∙ run-query w h qb a.out in
        let said = ap (λ (x : Outcome). x.answer) (sym is) ∙ a.answered in
        let l = written-left w h (asked qb) a.out n (query-keeps-well-formed n qb f) e a.number (inr (inr a.adds)) said in
        (subst AddsMiss (sym l.0) a.adds, ap (λ (x : Outcome). x.after) is ∙ l.1)

    missed : d < door_count → (c : Call) → AddsMissAt h d w c → (node_at (run w c).after h ≡ some (one_miss_more d n)) × After d n (one_miss_more d n) 1
    missed l c a =
        let qb = a.bytes in
        let s = heard c a in
        let one = query-misses n qb _ (query-comes-to n qb) s.0 in
        let both : Some one.query ≡ Some a.question = sym one.read ∙ a.read in
        let same : one.query ≡ a.question = cc in
        let door = ap (λ (x : Query). x.door) same ∙ a.door in
        let is : (query_of n qb).node ≡ one_miss_more d n = one.node ∙ ap (λ (x : ℕ). one_miss_more x n) door in
        let fine = query-keeps-well-formed n qb f in (
          ap (λ (x : Cluster). node_at x h) s.1 ∙ leave-here w h (query_of n qb).node fine ∙ ap some is,
          one_more d l n f (subst WellFormedNode is fine),
        )

  -- the node that the host holds after misses
  counted : d < door_count → (w : Cluster) (n : Node) → node_at w h ≡ some n → WellFormedNode n → (calls : History) → AllMiss h d w calls
      → (m : Node) × (node_at (run_all w calls) h ≡ some m) × After d n m (length calls)
  unfolding run_all
  counted l w n e f [] a = (n, e, record { fine = f; state = refl; own = refl; count = omega arith; others = λ x y. refl })
  counted l w n e f (c ∷ cs) a =
      let one = missed w n e f l c a.0 in
      let rest = counted l (run w c).after (one_miss_more d n) one.0 one.1.fine cs a.1 in
      (rest.0, rest.1, then one.1 rest.2)

  -- ten calls are some
  running : (w : Cluster) (n : Node) → node_at w h ≡ some n → WellFormedNode n → (calls : History) → length calls ≡ most_misses → AllMiss h d w calls
      → (held_seat n.state n.own).standing ≢ retired
  running w n e f [] ten a = absurd (omega arith)
  running w n e f (c ∷ cs) ten a = missed-running n a.0.bytes (heard w n e f c a.0).0

pub ten-lock-one : TenLockOne
ten-lock-one w h n e f d l z calls ten a =
    let v = run_all w calls in
    let t = counted h d l w n e f calls a in
    let m = t.0 in
    let x = t.2 in
    let runs : (held_seat m.state m.own).standing ≢ retired = rw (x.state, x.own) (running h d w n e f calls ten a) in
    let full : misses_at d m.counts ≡ most_misses = omega (arith, x.count) in
    record {
      locked = λ qb out q rq here room.
          let no = locked-by m x.fine runs qb q rq (ap (λ (i : ℕ). misses_at i m.counts) here ∙ full) in
          answer_at v h m t.1 x.fine qb out ∙ ap (λ (y : QueryAnswer). some (number_at h out (query_number y))) no
          ∙ ap some (in-room h out room);
      others = λ qb out q rq other.
          let s : SameAt q.door m n = record { state = x.state; own = x.own; misses = x.others q.door other } in
          let same = (query-same q.door x.fine f s qb (rw rq (ap not (eq-eqb q.door q.door refl)))).0 in
          answer_at v h m t.1 x.fine qb out ∙ ap (λ (y : QueryAnswer). some (number_at h out (query_number y))) same
          ∙ sym (answer_at w h n e f qb out);
    }
