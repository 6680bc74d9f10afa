-- What a call by value answers at one door, and leaves of it.
use mathlib.Core.Path.{◌≡◌, refl, sym, ap, ◌∙◌, subst}
use mathlib.Core.Bool.{Bool, true, false, cond, false≢true}
use mathlib.Core.List.{List, [], ◌∷◌}
use Prim.Native.Nat.{ℕ, zero, suc, ◌+◌}
use native.Mathlib.Omega.{arith}
use lib.Dec.{eqb}
use lib.ListN.{length, get_or, set}
use lib.Seq.{get_or-set_other}
use borrow.Author.Tests.{eqb-true, eqb-false, not-true, not-false}
use Rattle.lists.proofs.Tests.{cond_cases}
use Rattle.binary.specs.Codec.{byte}
use Rattle.binary.proofs.Codec.{fits_count}
use Rattle.state.specs.declared.State.{State}
use Rattle.records.specs.declared.Query.{Query}
use Rattle.std.specs.Prelude.{Option, Some, None}
use Rattle.records.specs.declared.Announcement.{Announcement}
use Rattle.records.specs.Layout.{door_count}
use Rattle.records.specs.Announcement.{read_announcement}
use Rattle.records.specs.Sheet.{is_sheet}
use Rattle.records.specs.StartQuery.{read_query}
use Rattle.actions.specs.Perform.{without_lapsed}
use Rattle.verdicts.specs.declared.Own.{Own}
use Rattle.verdicts.specs.declared.AttemptCounts.{AttemptCounts}
use Rattle.verdicts.specs.Attempts.{misses_at, with_misses, are_in_range}
use Rattle.verdicts.specs.Verdicts.{deliver_refusal, shows_quorum, vote_refusal, query_refusal}
use Rattle.node.specs.declared.Node.{Node}
use Rattle.node.specs.Reply.{CountedAnswer}
use Rattle.node.specs.Reply.{DeliverReply}
use Rattle.node.specs.QueryAnswer.{Open, Refused}
use Rattle.node.specs.Deliver.{deliver_read, deliver_records, deliver_of}
use Rattle.node.specs.Query.{adds_miss, answered, ask_record, ask_of, with_counts, query_of}
use Rattle.node.specs.WellFormed.{WellFormedNode}
use Rattle.assurance.specs.Doors.{is_elsewhere, SameAt}

-- a well-formed node has a count for each door
pub doors : (n : Node) → WellFormedNode n → length n.counts.misses ≡ door_count
doors n w = fits_count byte door_count n.counts.misses w.fits.1.1.1

-- A row that is set to the same number in two tables of one length.
set-alike : (l k : List ℕ) (i m : ℕ) → length l ≡ length k → get_or (set l i m) i 0 ≡ get_or (set k i m) i 0
set-alike [] [] i m e = refl
set-alike [] (y ∷ ys) i m e = absurd (omega arith)
set-alike (x ∷ xs) [] i m e = absurd (omega arith)
set-alike (x ∷ xs) (y ∷ ys) zero m e = refl
set-alike (x ∷ xs) (y ∷ ys) (suc i) m e = set-alike xs ys i m (omega arith)

module _ (d : ℕ) where
  pub same-itself : (n : Node) → SameAt d n n
  same-itself n = record { state = refl; own = refl; misses = refl }

  pub same_then : {n k m : Node} → SameAt d n k → SameAt d k m → SameAt d n m
  same_then s t = record { state = s.state ∙ t.state; own = s.own ∙ t.own; misses = s.misses ∙ t.misses }

  pub same_back : {n k : Node} → SameAt d n k → SameAt d k n
  same_back s = record { state = sym s.state; own = sym s.own; misses = sym s.misses }

  -- ---- deliver

  abbrev pub SameReply : DeliverReply → DeliverReply → Type 0
  SameReply r s = (r.answer ≡ s.answer) × SameAt d r.node s.node

  either : (b : Bool) {r s x y : DeliverReply} → SameReply r s → SameReply x y → SameReply (cond b r x) (cond b s y)
  either true p q = p
  either false p q = q

  -- It doesn't look at the counts.
  deliver-counts : (n : Node) (c : AttemptCounts) → misses_at d c ≡ misses_at d n.counts → (ab sb : List ℕ)
      → SameReply (deliver_of (with_counts c n) ab sb) (deliver_of n ab sb)
  unfolding deliver_of deliver_read
  deliver-counts n c e ab sb = by (read_announcement ab)
    where
      same : SameAt d (with_counts c n) n
      same = record { state = refl; own = refl; misses = e }

      by : (o : Option Announcement) → SameReply (deliver_records (with_counts c n) ab o sb) (deliver_records n ab o sb)
      by None = (refl, same)
      by (Some a) =
          either (is_sheet sb)
          (either (eqb (deliver_refusal (without_lapsed a.day n.state) n.own a sb) 0)
          (either (shows_quorum n.state sb) (refl, same-itself _)
          (either (eqb (vote_refusal n.state n.own ab) 0) (refl, record { state = refl; own = refl; misses = e }) (refl, same)))
          (refl, same)) (refl, same)

  pub deliver-same : {n k : Node} → SameAt d n k → (ab sb : List ℕ) → SameReply (deliver_of n ab sb) (deliver_of k ab sb)
  deliver-same {n} {k} s ab sb =
      let e : with_counts n.counts k ≡ n = λ i. record { state = sym s.state i; own = sym s.own i; counts = n.counts } in
      subst (λ (x : Node). SameReply (deliver_of x ab sb) (deliver_of k ab sb)) e (deliver-counts k n.counts s.misses ab sb)

  -- ---- query

  abbrev SameCounted : CountedAnswer → CountedAnswer → Type 0
  SameCounted r s = (r.answer ≡ s.answer) × (misses_at d r.counts ≡ misses_at d s.counts)

  -- the answer to a number, at door d
  answered-same : (b c : AttemptCounts) → length b.misses ≡ length c.misses → misses_at d b ≡ misses_at d c → (k : ℕ)
      → SameCounted (answered b d k) (answered c d k)
  unfolding answered
  answered-same b c l e k = at (eqb k 0) (adds_miss k)
    where
      more : get_or (set b.misses d (misses_at d b + 1)) d 0 ≡ get_or (set c.misses d (misses_at d c + 1)) d 0
      more = rw e (set-alike b.misses c.misses d (misses_at d c + 1) l)

      at : (zero adds : Bool)
          → SameCounted
          (cond zero (record { counts = with_misses d 0 b; answer = Open })
          (cond adds (record { counts = with_misses d (misses_at d b + 1) b; answer = Refused k }) (record { counts = b; answer = Refused k })))
          (cond zero (record { counts = with_misses d 0 c; answer = Open })
          (cond adds (record { counts = with_misses d (misses_at d c + 1) c; answer = Refused k }) (record { counts = c; answer = Refused k })))
      at true adds = (refl, set-alike b.misses c.misses d 0 l)
      at false true = (refl, more)
      at false false = (refl, e)

  -- the rules look at one count only
  refusal-same : (s : State) (o : Own) (b c : AttemptCounts) (q : Query) → q.door ≡ d → misses_at d b ≡ misses_at d c
      → query_refusal s o b q ≡ query_refusal s o c q
  unfolding query_refusal
  refusal-same s o b c q e m =
      let at : misses_at q.door b ≡ misses_at q.door c = rw e m in
      rw at

  asked-same : (s : State) (o : Own) (b c : AttemptCounts) → are_in_range b ≡ true → are_in_range c ≡ true → length b.misses ≡ length c.misses
      → misses_at d b ≡ misses_at d c → (x : Option Query) → is_elsewhere d x ≡ false → SameCounted (ask_record s o b x) (ask_record s o c x)
  asked-same s o b c rb rc l e None h = (refl, e)
  asked-same s o b c rb rc l e (Some q) h =
      let door = eqb-true q.door d (not-false _ h) in
      let k = query_refusal s o c q in
      rw (rb, rc, refusal-same s o b c q door e)
      (subst (λ (x : ℕ). SameCounted (answered b x k) (answered c x k)) (sym door) (answered-same b c l e k))

  pub query-same : {n k : Node} → WellFormedNode n → WellFormedNode k → SameAt d n k → (qb : List ℕ) → is_elsewhere d (read_query qb) ≡ false
      → ((query_of n qb).answer ≡ (query_of k qb).answer) × SameAt d (query_of n qb).node (query_of k qb).node
  unfolding query_of ask_of
  query-same {n} {k} w v s qb h =
      let r = asked-same k.state k.own n.counts k.counts w.counts v.counts (doors n w ∙ sym (doors k v)) s.misses (read_query qb) h in
      let on : State → Own → CountedAnswer = λ state own. ask_record state own n.counts (read_query qb) in
      let e : on n.state n.own ≡ on k.state k.own = λ i. on (s.state i) (s.own i) in (
        ap (λ (x : CountedAnswer). x.answer) e ∙ r.0,
        record { state = s.state; own = s.own; misses = ap (λ (x : CountedAnswer). misses_at d x.counts) e ∙ r.1 },
      )

  -- at another door
  asked-elsewhere : (s : State) (o : Own) (c : AttemptCounts) (x : Option Query) → is_elsewhere d x ≡ true
      → misses_at d (ask_record s o c x).counts ≡ misses_at d c
  unfolding answered
  asked-elsewhere s o c None h = absurd (false≢true h)
  asked-elsewhere s o c (Some q) h =
      let other : (m : ℕ) → misses_at d (with_misses q.door m c) ≡ misses_at d c =
      λ m. get_or-set_other c.misses q.door d m 0 (λ e. eqb-false q.door d (not-true _ h) (sym e)) in
      let k = query_refusal s o c q in
      let P : CountedAnswer → Type 0 = λ x. misses_at d x.counts ≡ misses_at d c in
      cond_cases P (are_in_range c)
      (λ _. cond_cases P (eqb k 0) (λ _. other 0) (λ _. cond_cases P (adds_miss k) (λ _. other (misses_at q.door c + 1)) (λ _. refl)))
      (λ _. refl)

  pub query-elsewhere : (n : Node) (qb : List ℕ) → is_elsewhere d (read_query qb) ≡ true → SameAt d (query_of n qb).node n
  unfolding query_of ask_of
  query-elsewhere n qb h =
      record { state = refl; own = refl; misses = asked-elsewhere n.state n.own n.counts (read_query qb) h }
