-- Doors don't disturb each other: a list is compared with the same list without the queries at other doors of the host, call by call.
use mathlib.Core.Path.{◌≡◌, refl, sym, ap, ◌∙◌, subst}
use mathlib.Core.Logic.{◌≢◌, inl}
use mathlib.Core.Bool.{Bool, true, false, cond, not, ◌&&◌, and-eq-true_iff, true≢false}
use mathlib.Core.List.Memᴰ
use mathlib.Core.List.{List, [], ◌∷◌}
use mathlib.Core.Option.{Option, none, some, some-injective}
use Prim.Native.Nat.{ℕ}
use native.Mathlib.Omega.{arith}
use lib.Dec.{eqb}
use lib.ListN.{take}
use Rattle.lists.specs.Table.{keep}
use Rattle.lists.proofs.Tests.{clash, cond_cases}
use Rattle.binary.specs.Number.{Bytes}
use Rattle.records.specs.StartQuery.{read_query}
use Rattle.verdicts.specs.Attempts.{no_misses}
use Rattle.node.specs.declared.Node.{Node}
use Rattle.node.specs.Reply.{DeliverReply}
use Rattle.node.specs.Answers.{deliver_number, query_number, checkpoint_number}
use Rattle.checkpoint.specs.Layout.{checkpoint_size}
use Rattle.node.specs.Checkpoint.{checkpoint_of, checkpoint_slice}
use Rattle.node.specs.Deliver.{deliver_of}
use Rattle.node.specs.Query.{query_of}
use Rattle.node.specs.WellFormed.{WellFormedNode}
use Rattle.node.specs.Claims.{Delivery, refuses, votes, performs}
use Rattle.node.proofs.Deliver.{deliver-comes-to}
use Rattle.node.proofs.Numbers.{deliver-numbers}
use Rattle.node.proofs.WellFormedNodes.{deliver-keeps-well-formed, query-keeps-well-formed}
use Rattle.image.specs.Image.{image_bytes, read_image}
use Rattle.image.proofs.RoundTrips.{node-read-back}
use Rattle.node_c.specs.Calls.{HandedBack, started, delivered, asked}
use Rattle.agreement.specs.History.{Host, by_value, through_c, Call, start, deliver, query, checkpoint, History, Cluster, empty, Outcome}
use Rattle.agreement.specs.History.{node_at, give, checkpoint_node, run}
use Rattle.agreement.specs.Claims.{HoldsBytes, run_all}
use Rattle.agreement.proofs.Calls.{leave, on_host, run-deliver, run-query, start_by, run-start, written-left}
use Rattle.agreement.proofs.Steps.{always}
use Rattle.assurance.specs.Doors.{is_elsewhere, is_same_host, asks_elsewhere, seen_at, answers_at, SameAt, SameHeld, neither, both, SameBut, HoldBytes}
use Rattle.assurance.specs.Doors.{DoorsApart, DoneOpensAll}
use Rattle.assurance.proofs.Refusals.{deliver-number}
use Rattle.assurance.proofs.Hosts.{same-host, other-host, leave-at, leave-here}
use Rattle.assurance.proofs.OneDoor.{same-itself, same_then, same_back, deliver-same, query-same, query-elsewhere}
use Rattle.assurance.proofs.Interference.{checkpoint-of-state}
use Rattle.assurance.proofs.Outcomes.{leaves_at, Reads, on_none, on_some, start_leaves, started-by, start-writes, starting-fine, run-checkpoint}

-- ---- two clusters that differ in nothing but the misses of host h at other doors than d

module _ (h : Host) (d : ℕ) where
  -- two nodes at host g: at another host than h they are equal
  record Near (g : Host) (n k : Node) : Type 0 where
    same : SameAt d n k
    equal : g ≢ h → n ≡ k
    fine : WellFormedNode n × WellFormedNode k

  data Held (g : Host) : Option Node → Option Node → Type 0 where
    none-held : Held g none none
    both-held : {n k : Node} → Near g n k → Held g (some n) (some k)

  record Similar (w v : Cluster) : Type 0 where
    held : (g : Host) → Held g (node_at w g) (node_at v g)
    given : w.given ≡ v.given
    reads : Reads w × Reads v

  -- a well-formed node is left
  reads-left : (w : Cluster) (g : Host) (n : Node) → WellFormedNode n → Reads w → Reads (leave w g n)
  reads-left w (by_value i) n f r = r
  reads-left w (through_c i) n f r = λ j b. at j b (eqb j i)
    where
      at : (j : ℕ) (b : List ℕ) (t : Bool) → cond t (some (image_bytes n)) (w.images j) ≡ some b → (read_image b).ok ≡ true
      at j b true e = rw (← some-injective (image_bytes n) b e, node-read-back n f)
      at j b false e = r j b e

  given-left : (w : Cluster) (g : Host) (n : Node) → (leave w g n).given ≡ w.given
  given-left w (by_value i) n = refl
  given-left w (through_c i) n = refl

  leave-both : {w v : Cluster} (g : Host) (n k : Node) → Similar w v → Near g n k → Similar (leave w g n) (leave v g k)
  leave-both {w} {v} g n k S near = record {
    held = λ x. rw (leave-at w g x n near.fine.0, leave-at v g x k near.fine.1) (at x (is_same_host x g) refl);
    given = given-left w g n ∙ S.given ∙ sym (given-left v g k);
    reads = (reads-left w g n near.fine.0 S.reads.0, reads-left v g k near.fine.1 S.reads.1);
  }
    where
      at : (x : Host) (b : Bool) → is_same_host x g ≡ b → Held x (cond b (some n) (node_at w x)) (cond b (some k) (node_at v x))
      at x true e = both-held (subst (λ (y : Host). Near y n k) (sym (same-host x g e)) near)
      at x false e = S.held x

  leave-one : {w v : Cluster} (g : Host) (n k : Node) → Similar w v → node_at v g ≡ some k → Near g n k → Similar (leave w g n) v
  leave-one {w} {v} g n k S holds near = record {
    held = λ x. rw (leave-at w g x n near.fine.0) (at x (is_same_host x g) refl);
    given = given-left w g n ∙ S.given;
    reads = (reads-left w g n near.fine.0 S.reads.0, S.reads.1);
  }
    where
      at : (x : Host) (b : Bool) → is_same_host x g ≡ b → Held x (cond b (some n) (node_at w x)) (node_at v x)
      at x true e =
          let here = same-host x g e in
          rw (here, holds) (both-held near)
      at x false e = S.held x

  -- ---- one call

  abbrev SameOutcome : Outcome → Outcome → Type 0
  SameOutcome x y = (x.answer ≡ y.answer) × Similar x.after y.after

  -- on both sides, where nodes that are near stay so
  on_both : (w v : Cluster) (g : Host) (f : Node → HandedBack) (out : List ℕ) → Similar w v
      → ((n k : Node) → Near g n k → ((f n).number ≡ (f k).number) × Near g (f n).node (f k).node)
      → SameOutcome (on_host w g f out) (on_host v g f out)
  on_both w v g f out S near = at (node_at w g) (node_at v g) refl refl (S.held g)
    where
      at : (o p : Option Node) → node_at w g ≡ o → node_at v g ≡ p → Held g o p → SameOutcome (on_host w g f out) (on_host v g f out)
      at none none a b none-held = rw (on_none w g f out S.reads.0 a, on_none v g f out S.reads.1 b) (refl, S)
      at (some n) (some k) a b (both-held x) =
          let y = near n k x in
          rw (
            on_some w g f out n a y.1.fine.0,
            on_some v g f out k b y.1.fine.1,
            y.0,
          )
          (refl, left (leaves_at g out (f k).number))
        where
          left : (t : Bool) → Similar (cond t (leave w g (f n).node) w) (cond t (leave v g (f k).node) v)
          left true = leave-both g (f n).node (f k).node S (near n k x).1
          left false = S
      at none (some k) a b h = elim h [ ]
      at (some n) none a b h = elim h [ ]

  -- a query at another door of host h, on one side
  elsewhere-near : (qb : List ℕ) → is_elsewhere d (read_query qb) ≡ true → (n k : Node) → Near h n k → Near h (query_of n qb).node k
  elsewhere-near qb e n k x = record {
    same = same_then d (query-elsewhere d n qb e) x.same;
    equal = λ o. absurd (o refl);
    fine = (query-keeps-well-formed n qb x.fine.0, x.fine.1);
  }

  ask-one : (w v : Cluster) (qb out : List ℕ) → is_elsewhere d (read_query qb) ≡ true → Similar w v → Similar (on_host w h (asked qb) out).after v
  ask-one w v qb out e S = at (node_at w h) (node_at v h) refl refl (S.held h)
    where
      f : Node → HandedBack
      f = asked qb

      at : (o p : Option Node) → node_at w h ≡ o → node_at v h ≡ p → Held h o p → Similar (on_host w h f out).after v
      at none none a b none-held = rw (on_none w h f out S.reads.0 a) S
      at (some n) (some k) a b (both-held x) =
          let y = elsewhere-near qb e n k x in
          rw (on_some w h f out n a y.fine.0)
          (cond_cases (λ (z : Cluster). Similar z v) (leaves_at h out (f n).number) (λ _. leave-one h (f n).node k S b y) (λ _. S))
      at none (some k) a b x = elim x [ ]
      at (some n) none a b x = elim x [ ]

  -- nodes that are near stay so
  deliver-near : (ab sb : List ℕ) → Bytes ab → (g : Host) (n k : Node) → Near g n k
      → ((delivered ab sb n).number ≡ (delivered ab sb k).number) × Near g (delivered ab sb n).node (delivered ab sb k).node
  deliver-near ab sb b g n k x =
      let s = deliver-same d x.same ab sb in (
        ap deliver_number s.0,
        record {
          same = s.1;
          equal = λ o. ap (λ (y : Node). (deliver_of y ab sb).node) (x.equal o);
          fine = (deliver-keeps-well-formed n ab sb b x.fine.0, deliver-keeps-well-formed k ab sb b x.fine.1);
        },
      )

  query-near : (g : Host) (qb : List ℕ) → (is_same_host g h && is_elsewhere d (read_query qb)) ≡ false → (n k : Node) → Near g n k
      → ((asked qb n).number ≡ (asked qb k).number) × Near g (asked qb n).node (asked qb k).node
  query-near g qb e n k x = (
    ap query_number s.0,
    record {
      same = s.1;
      equal = λ o. ap (λ (y : Node). (query_of y qb).node) (x.equal o);
      fine = (query-keeps-well-formed n qb x.fine.0, query-keeps-well-formed k qb x.fine.1);
    },
  )
    where
      at : (b : Bool) → is_same_host g h ≡ b → (b && is_elsewhere d (read_query qb)) ≡ false
          → ((query_of n qb).answer ≡ (query_of k qb).answer) × SameAt d (query_of n qb).node (query_of k qb).node
      at true i e = query-same d x.fine.0 x.fine.1 x.same qb e
      at false i e = rw (x.equal (other-host g h i)) (refl, same-itself d _)

      s : ((query_of n qb).answer ≡ (query_of k qb).answer) × SameAt d (query_of n qb).node (query_of k qb).node
      s = at (is_same_host g h) refl e

  -- a start leaves the same node on both sides
  start-both : (w v : Cluster) (g : Host) (cb sb out : List ℕ) → Bytes cb → Bytes sb → Similar w v
      → SameOutcome (start_by w g (started cb sb) out) (start_by v g (started cb sb) out)
  start-both w v g cb sb out hc hs S =
      rw (started-by w g r out fine, started-by v g r out fine) (refl, left (start_leaves g out r.number) refl)
    where
      r : HandedBack
      r = started cb sb

      fine : start_leaves g out r.number ≡ true → WellFormedNode r.node
      fine e = starting-fine cb sb hc hs (start-writes g out r.number e)

      left : (t : Bool) → start_leaves g out r.number ≡ t → Similar (cond t (leave w g r.node) w) (cond t (leave v g r.node) v)
      left true e = leave-both g r.node r.node S (record { same = same-itself d _; equal = λ _. refl; fine = (fine e, fine e) })
      left false e = S

  -- a checkpoint is of the state
  give-both : (w v : Cluster) (b : List ℕ) → Similar w v → Similar (give w b) (give v b)
  give-both w v b S = record { held = at; given = ap (λ (l : List (List ℕ)). b ∷ l) S.given; reads = S.reads }
    where
      at : (g : Host) → Held g (node_at (give w b) g) (node_at (give v b) g)
      at (by_value i) = S.held (by_value i)
      at (through_c i) = S.held (through_c i)

  checkpoint-both : (w v : Cluster) (out : List ℕ) → Similar w v → (g : Host) (o p : Option Node) → Held g o p
      → SameOutcome (checkpoint_node w out o) (checkpoint_node v out p)
  checkpoint-both w v out S g none none none-held = (refl, S)
  checkpoint-both w v out S g (some n) (some k) (both-held x) =
      let same = checkpoint-of-state n k x.same.state out in
      let number = checkpoint_number (checkpoint_of k out).answer in
      rw (same.0, same.1) (refl, left number (eqb number 0))
    where
      left : (j : ℕ) (t : Bool) → Similar (cond t (give w (take checkpoint_size (checkpoint_slice k out))) w)
          (cond t (give v (take checkpoint_size (checkpoint_slice k out))) v)
      left j true = give-both w v _ S
      left j false = S
  checkpoint-both w v out S g none (some k) x'' = elim x'' [ ]
  checkpoint-both w v out S g (some n) none x3 = elim x3 [ ]

  -- a call that is not at another door of the host
  run-both : (w v : Cluster) (c : Call) → HoldsBytes c → asks_elsewhere h d c ≡ false → Similar w v → SameOutcome (run w c) (run v c)
  run-both w v (start g cb sb out) b e S = rw (run-start w g cb sb out, run-start v g cb sb out) (start-both w v g cb sb out b.0 b.1 S)
  run-both w v (deliver g ab sb out) b e S =
      rw (run-deliver w g ab sb out, run-deliver v g ab sb out) (on_both w v g (delivered ab sb) out S (deliver-near ab sb b.0 g))
  run-both w v (query g qb out) b e S =
      rw (run-query w g qb out, run-query v g qb out) (on_both w v g (asked qb) out S (query-near g qb e))
  run-both w v (checkpoint g out) b e S =
      rw (run-checkpoint w g out S.reads.0, run-checkpoint v g out S.reads.1)
      (checkpoint-both w v out S g (node_at w g) (node_at v g) (S.held g))

  -- and one that is
  run-one : (w v : Cluster) (c : Call) → asks_elsewhere h d c ≡ true → Similar w v → Similar (run w c).after v
  run-one w v (start g cb sb out) e S = absurd (true≢false (sym e))
  run-one w v (deliver g ab sb out) e S = absurd (true≢false (sym e))
  run-one w v (query g qb out) e S =
      let t = (and-eq-true_iff (is_same_host g h) (is_elsewhere d (read_query qb))).0 e in
      rw (run-query w g qb out, same-host g h t.0) (ask-one w v qb out t.1 S)
  run-one w v (checkpoint g out) e S = absurd (true≢false (sym e))

  -- ---- the whole list

  -- what every call is answered
  all_answers : Cluster → History → List (Option ℕ)
  all_answers w [] = []
  all_answers w (c ∷ cs) = (run w c).answer ∷ all_answers (run w c).after cs

  compared : (w v : Cluster) (xs : History) → HoldBytes xs → Similar w v
      → (answers_at h d w xs ≡ all_answers v (seen_at h d xs)) × Similar (run_all w xs) (run_all v (seen_at h d xs))
  unfolding answers_at run_all keep all_answers
  compared w v [] b S = (refl, S)
  compared w v (c ∷ cs) b S = at (asks_elsewhere h d c) refl
      (λ u x. compared (run w c).after u cs (λ y m. b y (Memᴰ.tail m)) x)
    where
      Goal : Bool → Type 0
      Goal t =
          let later = answers_at h d (run w c).after cs in
          let seen = cond (not t) (c ∷ seen_at h d cs) (seen_at h d cs) in
          (cond t later ((run w c).answer ∷ later) ≡ all_answers v seen) × Similar (run_all (run w c).after cs) (run_all v seen)

      at : (t : Bool) → asks_elsewhere h d c ≡ t
          → ((u : Cluster) → Similar (run w c).after u
          → (answers_at h d (run w c).after cs ≡ all_answers u (seen_at h d cs)) × Similar (run_all (run w c).after cs) (run_all u (seen_at h d cs)))
          → Goal t
      at true e more = more v (run-one w v c e S)
      at false e more =
          let here = run-both w v c (b c (Memᴰ.head refl)) e S in
          let rest = more (run v c).after here.1 in
          (rw (here.0, rest.0), rest.1)

  similar-empty : Similar empty empty
  similar-empty = record { held = at; given = refl; reads = (λ i b e. clash (cc), λ i b e. clash (cc)) }
    where
      at : (g : Host) → Held g (node_at empty g) (node_at empty g)
      at (by_value i) = none-held
      at (through_c i) = none-held

  -- two clusters that are each similar to a third
  same-but : (w v z : Cluster) → Similar w z → Similar v z → SameBut h d w v
  same-but w v z S T = record {
    here = here (S.held h) (T.held h);
    others = λ g o. others g o (S.held g) ∙ sym (others g o (T.held g));
    given = S.given ∙ sym T.given;
  }
    where
      here : {o p q : Option Node} → Held h o q → Held h p q → SameHeld d o p
      here none-held none-held = neither
      here (both-held x) (both-held y) = both (same_then d x.same (same_back d y.same))

      others : (g : Host) → g ≢ h → {o p : Option Node} → Held g o p → o ≡ p
      others g o none-held = refl
      others g o (both-held x) = ap some (x.equal o)

pub doors-apart : DoorsApart
doors-apart h d xs ys bx by e =
    let x = compared h d empty empty xs bx (similar-empty h d) in
    let y = compared h d empty empty ys by (similar-empty h d) in
    let z = run_all empty (seen_at h d ys) in (
      x.0 ∙ ap (all_answers h d empty) e ∙ sym y.0,
      same-but h d (run_all empty xs) (run_all empty ys) z
          (subst (λ (l : History). Similar h d (run_all empty xs) (run_all empty l)) e x.1) y.1,
    )

-- ---- a performed deliver

done-clears : (n : Node) (ab sb : List ℕ) (r : DeliverReply) → Delivery n ab sb r → deliver_number r.answer ≡ 0 → r.node.counts ≡ no_misses
done-clears n ab sb r (refuses k y e) z =
    let t = deliver-numbers y in
    let q : deliver_number r.answer ≡ k = deliver-number e in
    absurd (omega arith)
done-clears n ab sb r (votes a acc few m e) z = let q : deliver_number r.answer ≡ 128 = deliver-number e in absurd (omega arith)
done-clears n ab sb r (performs a acc c e) z = ap (λ (x : DeliverReply). x.node.counts) e

pub done-opens-all : DoneOpensAll
done-opens-all first calls park p n holds =
    let t = p.moment in
    let w = t.before in
    let q = p.performed in
    let ab = p.bytes in
    let sb = p.sheet in
    let is : run w t.call ≡ on_host w q.host (delivered ab sb) q.out = ap (run w) q.called ∙ run-deliver w q.host ab sb q.out in
    let bytes = subst HoldsBytes q.called (park.bytes t p.in_list) in
    let held = (always first calls park t p.in_list).0.held q.host q.node q.held in
    let f = deliver-keeps-well-formed q.node ab sb bytes.0 held.well-formed in
    let said = ap (λ (x : Outcome). x.answer) (sym is) ∙ q.answered in
    let l = written-left w q.host (delivered ab sb) q.out q.node f q.held 0 (inl refl) said in
    let left : node_at (run w t.call).after q.host ≡ some (deliver_of q.node ab sb).node =
    ap (λ (x : Outcome). node_at x.after q.host) is ∙ ap (λ (x : Cluster). node_at x q.host) l.1 ∙ leave-here w q.host _ f in
    let same = some-injective n (deliver_of q.node ab sb).node (sym holds ∙ left) in
    ap (λ (x : Node). x.counts) same ∙ done-clears q.node ab sb _ (deliver-comes-to q.node ab sb) l.0
