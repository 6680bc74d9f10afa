-- What a refused call leaves.
use mathlib.Core.Path.{◌≡◌, refl, sym, ap, ◌∙◌, subst}
use mathlib.Core.Logic.{◌≢◌, inl, inr}
use mathlib.Core.Bool.{Bool, true, false, cond}
use mathlib.Core.List.{List}
use mathlib.Core.Option.{Option, none, some, some-injective}
use Prim.Native.Nat.{ℕ, ◌+◌, ◌%◌}
use native.Mathlib.Omega.{arith}
use lib.Dec.{eqb, leb}
use lib.ListN.{length, take}
use borrow.Author.Tests.{eqb-true, eq-eqb, ne_eqb}
use Rattle.lists.proofs.Tests.{clash, cond_cases}
use Rattle.binary.specs.Number.{overwrite}
use Rattle.state.specs.declared.Day.{Day}
use Rattle.state.specs.Time.{cycle, day}
use Rattle.records.specs.declared.Query.{Query}
use Rattle.std.specs.Prelude.{Some}
use Rattle.records.specs.StartQuery.{read_query}
use Rattle.roster.proofs.Outcomes.{import-answers, export-answers}
use Rattle.shares.proofs.Answering.{split-answers, merge-answers, add-answers}
use Rattle.page.specs.Page.{line_count, page_text}
use Rattle.node.specs.declared.Node.{Node}
use Rattle.node.specs.Reply.{StartReply}
use Rattle.node.specs.Reply.{DeliverReply}
use Rattle.node.specs.Reply.{QueryReply}
use Rattle.node.specs.CheckpointAnswer.{CheckpointAnswer}
use Rattle.node.specs.CheckpointAnswer.{Given, Refused}
use Rattle.node.specs.PageAnswer as Page
use Rattle.node.specs.Answers.{start_number, deliver_number, query_number, checkpoint_number}
use Rattle.checkpoint.specs.Layout.{checkpoint_size}
use Rattle.node.specs.Checkpoint.{checkpoint_of, checkpoint_slice}
use Rattle.node.specs.Page.{page_fits, page_of, page_slice}
use Rattle.verdicts.specs.Attempts.{misses_at, with_misses}
use Rattle.node.specs.Query.{with_counts}
use Rattle.node.specs.Claims.{Starting, Delivery, Asking, one_miss_more, no_misses_at, refuses, starts, votes, performs, misses, opens}
use Rattle.node.proofs.Start.{start-comes-to}
use Rattle.node.proofs.Deliver.{deliver-comes-to}
use Rattle.node.proofs.Query.{query-comes-to}
use Rattle.node.proofs.Numbers.{start-numbers, deliver-numbers, query-numbers}
use Rattle.image.specs.Layout.{image_size}
use Rattle.image.specs.Image.{image_bytes, is_image, read_image}
use Rattle.node_c.specs.Calls.{HandedBack, started, delivered, asked, Returned, return, on_image, node_start, node_deliver, node_query, node_checkpoint}
use Rattle.node_c.specs.Calls.{node_roster_import, node_roster_export, node_shares_split, node_shares_merge, node_shares_add}
use Rattle.node_c.specs.Claims.{Writes, Returning, no_room, writes, leaves, PageReturning, malformed, too_short, given}
use Rattle.node_c.proofs.Calls.{page-returns, calls-return, writes-to, leaves_to, image-ok}
use Rattle.agreement.specs.History.{by_value, through_c, start, deliver, query, checkpoint, Cluster, Outcome, on_node, keep_image, on_held_image}
use Rattle.agreement.specs.History.{keep_checkpoint, checkpoint_node, checkpoint_image, run}
use Rattle.agreement.proofs.Calls.{front, not_written, written-return}
use Rattle.assurance.specs.Refusals.{Refusal, AddsMiss, Unchanged, RefusalsChangeNothing, Counted, MissesAddOne, OpenClearsOne}
use Rattle.assurance.specs.Refusals.{KeepsSlice, SlicesKept}
use Rattle.assurance.proofs.Length.{missed-size}
use Rattle.assurance.proofs.PartialKeys.{split-kept, split-returned-kept, merge-kept, merge-returned-kept, add_kept, add-returned-kept}
use Rattle.assurance.proofs.Rosters.{import-answered, export-answered, refusal-kept, return_kept}

-- ---- what the calls by value hand back

-- the numbers of equal replies
pub deliver-number : {r s : DeliverReply} → r ≡ s → deliver_number r.answer ≡ deliver_number s.answer
deliver-number e = ap (λ (x : DeliverReply). deliver_number x.answer) e

query-number : {r s : QueryReply} → r ≡ s → query_number r.answer ≡ query_number s.answer
query-number e = ap (λ (x : QueryReply). query_number x.answer) e

-- 19, 20 and 21 are not answers of a start or a deliver
start-adds-none : (cb sb : List ℕ) (r : StartReply) → Starting cb sb r → ¬ AddsMiss (start_number r.answer)
start-adds-none cb sb r (refuses k y e) m = let t = start-numbers y in let q : start_number r.answer ≡ k = ap
    (λ (x : StartReply). start_number x.answer) e in omega arith
start-adds-none cb sb r (starts x rx rc active above e) m = let q : start_number r.answer ≡ 0 = ap
    (λ (x : StartReply). start_number x.answer) e in omega arith

deliver-adds-none : (n : Node) (ab sb : List ℕ) (r : DeliverReply) → Delivery n ab sb r → ¬ AddsMiss (deliver_number r.answer)
deliver-adds-none n ab sb r (refuses k y e) m =
    let t = deliver-numbers y in
    let q : deliver_number r.answer ≡ k = deliver-number e in
    omega arith
deliver-adds-none n ab sb r (votes a acc few v e) m = let q : deliver_number r.answer ≡ 128 = deliver-number e in omega arith
deliver-adds-none n ab sb r (performs a acc c e) m = let q : deliver_number r.answer ≡ 0 = deliver-number e in omega arith

-- a refused deliver hands back the node
deliver-same : (n : Node) (ab sb : List ℕ) (r : DeliverReply) → Delivery n ab sb r → Refusal (deliver_number r.answer) → r.node ≡ n
deliver-same n ab sb r (refuses k y e) h = ap (λ (x : DeliverReply). x.node) e
deliver-same n ab sb r (votes a acc few v e) h = absurd (h.1 (deliver-number e))
deliver-same n ab sb r (performs a acc c e) h = absurd (h.0 (deliver-number e))

-- a refused query hands back the node, or the node with one miss more
query-same : (n : Node) (qb : List ℕ) (r : QueryReply) → Asking n qb r → Refusal (query_number r.answer) → ¬ AddsMiss (query_number r.answer)
    → r.node ≡ n
query-same n qb r (refuses k l y e) h m = ap (λ (x : QueryReply). x.node) e
query-same n qb r (misses k q l rq b y e) h m =
    let t = query-numbers y in
    let z : query_number r.answer ≡ k = query-number e in
    absurd (m (omega arith, omega arith))
query-same n qb r (opens q rq o e) h m = absurd (h.0 (query-number e))

-- a query hands back its node with f of the door
pub record CountedAt (n : Node) (qb : List ℕ) (m : Node) (f : ℕ → Node → Node) : Type 0 where
  pub query : Query
  pub read : read_query qb ≡ Some query
  pub node : m ≡ f query.door n

pub query-misses : (n : Node) (qb : List ℕ) (r : QueryReply) → Asking n qb r → AddsMiss (query_number r.answer) → CountedAt n qb r.node one_miss_more
query-misses n qb r (refuses k l y e) m = let z : query_number r.answer ≡ k = query-number e in absurd (omega arith)
query-misses n qb r (misses k q l rq b y e) m = record { query = q; read = rq; node = ap (λ (x : QueryReply). x.node) e }
query-misses n qb r (opens q rq o e) m = let z : query_number r.answer ≡ 0 = query-number e in absurd (omega arith)

query-opens : (n : Node) (qb : List ℕ) (r : QueryReply) → Asking n qb r → query_number r.answer ≡ 0 → CountedAt n qb r.node no_misses_at
query-opens n qb r (refuses k l y e) z =
    let t = query-numbers y in
    let a : query_number r.answer ≡ k = query-number e in
    absurd (omega arith)
query-opens n qb r (misses k q l rq b y e) z = let a : query_number r.answer ≡ k = query-number e in absurd (omega arith)
query-opens n qb r (opens q rq o e) z = record { query = q; read = rq; node = ap (λ (x : QueryReply). x.node) e }

-- ---- what the calls for C return

-- no image is written for a refusal that adds no miss
no-image : (k : ℕ) → Refusal k → ¬ AddsMiss k → ¬ Writes k
no-image k h m (inl e) = h.0 e
no-image k h m (inr (inl e)) = h.1 e
no-image k h m (inr (inr a)) = m a

returned-kept : (r : HandedBack) (out : List ℕ) (x : Returned) → Returning r out x → Refusal x.number → ¬ AddsMiss x.number → x.slice ≡ out
returned-kept r out x (no_room l a b e) h m = ap (λ (y : Returned). y.slice) e
returned-kept r out x (writes l v e) h m = absurd (no-image x.number h m (subst Writes (ap (λ (y : Returned). y.number) (sym e)) v))
returned-kept r out x (leaves n p e) h m = ap (λ (y : Returned). y.slice) e

-- on an image
image-kept : (f : Node → HandedBack) (image out : List ℕ) → Refusal (on_image f image out).number → ¬ AddsMiss (on_image f image out).number
    → (on_image f image out).slice ≡ out
unfolding on_image
image-kept f image out =
    cond_cases (λ (x : Returned). Refusal x.number → ¬ AddsMiss x.number → x.slice ≡ out) (read_image image).ok
    (λ e. returned-kept _ out _ (calls-return _ out))
    (λ e h m. refl)

-- a number with which an image is written is that of the call by value, and its node's image is written
record WrittenOn (f : Node → HandedBack) (image out : List ℕ) (x : Returned) : Type 0 where
  read : is_image image ≡ true
  number : (f (read_image image).node).number ≡ x.number
  slice : x.slice ≡ overwrite (image_bytes (f (read_image image).node).node) out

image-written : (f : Node → HandedBack) (image out : List ℕ) → Writes (on_image f image out).number → WrittenOn f image out (on_image f image out)
unfolding on_image
image-written f image out =
    cond_cases (λ (x : Returned). Writes x.number → WrittenOn f image out x) (read_image image).ok
    (λ e m.
    let w = written-return (f (read_image image).node) out m in
    record {
      read = sym (image-ok image) ∙ e;
      number = sym (ap (λ (y : Returned). y.number) w);
      slice = ap (λ (y : Returned). y.slice) w;
    })
    (λ e m. absurd ((not_written m).0 refl))

-- a miss writes an image
miss-writes : {k : ℕ} → AddsMiss k → Writes k
miss-writes m = inr (inr m)

-- the slice after a query on an image that left f of its door
counted-slice : (image qb out : List ℕ) (f : ℕ → Node → Node) (q : Query) → WrittenOn (asked qb) image out (on_image (asked qb) image out)
    → (asked qb (read_image image).node).node ≡ f q.door (read_image image).node
    → (on_image (asked qb) image out).slice ≡ overwrite (image_bytes (f q.door (read_image image).node)) out
counted-slice image qb out f q x e = x.slice ∙ ap (λ (n : Node). overwrite (image_bytes n) out) e

-- a miss on an image is one by value
image-misses : (image qb out : List ℕ) → AddsMiss (on_image (asked qb) image out).number
    → CountedAt (read_image image).node qb (asked qb (read_image image).node).node one_miss_more
image-misses image qb out m =
    let n = (read_image image).node in
    let x = image-written (asked qb) image out (miss-writes m) in
    query-misses n qb _ (query-comes-to n qb) (subst AddsMiss (sym x.number) m)

-- a refused checkpoint
slice-by : (bytes out : List ℕ) (b : Bool) → cond b Given (Refused 22) ≢ Given → cond b bytes out ≡ out
slice-by bytes out true h = absurd (h refl)
slice-by bytes out false h = refl

checkpoint-kept : (n : Node) (out : List ℕ) → (checkpoint_of n out).answer ≢ Given → checkpoint_slice n out ≡ out
unfolding checkpoint_of checkpoint_slice
checkpoint-kept n out = slice-by _ out (leb checkpoint_size (length out))

image-checkpoint-kept : (image out : List ℕ) → KeepsSlice out (node_checkpoint image out)
unfolding node_checkpoint
image-checkpoint-kept image out = cond_cases (KeepsSlice out) (read_image image).ok (λ e h. checkpoint-kept _ out (λ g. h.0 (ap checkpoint_number g)))
    (λ e h. refl)

-- a refused page
image-page-kept : (image : List ℕ) (d : ℕ) (out : List ℕ) (x : Returned) → PageReturning image d out x → x.number % 256 ≢ 0 → x.slice ≡ out
image-page-kept image d out x (malformed e q) h = ap (λ (y : Returned). y.slice) q
image-page-kept image d out x (too_short e l q) h = ap (λ (y : Returned). y.slice) q
image-page-kept image d out x (given e l q) h = let z = ap (λ (y : Returned). y.number) q in absurd (h (omega arith))

page-kept : (n : Node) (d : Day) (out : List ℕ) (k : ℕ) → (page_of n out).answer ≡ Page.Refused k → page_slice n d out ≡ out
unfolding page_of page_slice
page-kept n d out k = by (page_fits n out)
  where
    by : (b : Bool) → cond b (Page.Given (line_count n.state)) (Page.Refused 23) ≡ Page.Refused k
        → cond b (overwrite (page_text n.state d) out) out ≡ out
    by true e = clash (cc)
    by false e = refl

-- nor of one through C
image-start-adds-none : (cb sb out : List ℕ) → ¬ AddsMiss (return (started cb sb) out).number
image-start-adds-none cb sb out m =
    let w = written-return (started cb sb) out (miss-writes m) in
    start-adds-none cb sb _ (start-comes-to cb sb) (subst AddsMiss (ap (λ (y : Returned). y.number) w) m)

image-deliver-adds-none : (image ab sb out : List ℕ) → ¬ AddsMiss (on_image (delivered ab sb) image out).number
image-deliver-adds-none image ab sb out m =
    let n = (read_image image).node in
    let x = image-written (delivered ab sb) image out (miss-writes m) in
    deliver-adds-none n ab sb _ (deliver-comes-to n ab sb) (subst AddsMiss (sym x.number) m)

pub slices-kept : SlicesKept
unfolding node_start node_deliver node_query node_roster_import node_roster_export node_shares_split node_shares_merge node_shares_add
slices-kept = record {
  start = λ cb sb out h. returned-kept _ out _ (calls-return (started cb sb) out) h (image-start-adds-none cb sb out);
  deliver = λ image ab sb out h. image-kept (delivered ab sb) image out h (image-deliver-adds-none image ab sb out);
  query = λ image qb out m h. image-kept (asked qb) image out h m;
  miss = λ image qb out m.
      let c = image-misses image qb out m in
      let x = image-written (asked qb) image out (miss-writes m) in
      (c.query, c.read, counted-slice image qb out one_miss_more c.query x c.node);
  checkpoint = image-checkpoint-kept;
  checkpoint-by-value = λ n out k e. checkpoint-kept n out (λ g. let z : ◌≡◌ {A = ℕ} 0 1 = cc in omega arith);
  page = λ image d out h. image-page-kept image d out _ (page-returns image d out) h;
  page-by-value = page-kept;
  roster-import = λ roster c d out h. return_kept out _ (import-answered _ _ _ out _ (import-answers roster (cycle c) (day d) out)) h;
  import-by-value = λ text c d out k e. refusal-kept out _ (import-answered _ _ _ out _ (import-answers text c d out)) k e;
  roster-export = λ announcement out h. return_kept out _ (export-answered _ out _ (export-answers announcement out)) h;
  export-by-value = λ announcement out k e. refusal-kept out _ (export-answered _ out _ (export-answers announcement out)) k e;
  shares-split = λ key k n cs out h. split-returned-kept out key k n cs _ (split-answers key k n cs out) h;
  split-by-value = λ key k n cs out j e. split-kept out key k n cs _ (split-answers key k n cs out) j e;
  shares-merge = λ k n numbers shares out h. merge-returned-kept out k n numbers shares _ (merge-answers k n numbers shares out) h.0;
  merge-by-value = λ k n numbers shares out j e. merge-kept out k n numbers shares _ (merge-answers k n numbers shares out) j e;
  shares-add = λ first second out h. add-returned-kept out first second _ (add-answers first second out) h;
  add-by-value = λ first second out j e. add_kept out first second _ (add-answers first second out) j e;
}

-- ---- what hosts hold

still : (w : Cluster) → Unchanged w w
still w = record { nodes = λ i. refl; images = λ i. refl; given = refl }

-- a call that is answered finds something at its host
answered : {A : Type 0} (P : Option A → Type 0) (f : Option A → Outcome) (k : ℕ) → (f none).answer ≡ none →
    ((x : A) → (f (some x)).answer ≡ some k → P (some x))
    → (o : Option A) → (f o).answer ≡ some k → P o
answered P f k e g none a = clash (cc)
answered P f k e g (some x) a = g x a

-- a call by value that hands back the node that host i holds
same-node : (w : Cluster) (i k : ℕ) (f : Node → HandedBack) → ((n : Node) → (f n).number ≡ k → (f n).node ≡ n)
    → (o : Option Node) → w.nodes i ≡ o → (on_node w i f o).answer ≡ some k → Unchanged w (on_node w i f o).after
same-node w i k f same none e a = clash (cc)
same-node w i k f same (some n) e a = record { nodes = at; images = λ j. refl; given = refl }
  where
    at : (j : ℕ) → cond (eqb j i) (some (f n).node) (w.nodes j) ≡ w.nodes j
    at j =
        cond_cases (λ (o : Option Node). o ≡ w.nodes j) (eqb j i)
        (λ h. ap some (same n (some-injective (f n).number k a)) ∙ sym e ∙ ap w.nodes (sym (eqb-true j i h)))
        (λ h. refl)

-- a call for C that writes no image
same-image : (w : Cluster) (i k : ℕ) (x : Returned) → Refusal k → ¬ AddsMiss k → x.number ≡ k → Unchanged w (keep_image w i x).after
same-image w i k x h m e = rw (leaves_to x.number (rw e (no-image k h m))) (still w)

same-held : (w : Cluster) (i k : ℕ) (g : List ℕ → Returned) → Refusal k → ¬ AddsMiss k
    → (o : Option (List ℕ)) → (on_held_image w i g o).answer ≡ some k → Unchanged w (on_held_image w i g o).after
same-held w i k g h m =
    answered (λ o. Unchanged w (on_held_image w i g o).after) (on_held_image w i g) k refl
    (λ b a. same-image w i k (g b) h m (some-injective (g b).number k a))

-- a checkpoint that is not given
same-given : (w : Cluster) (k j : ℕ) (slice : List ℕ) → k ≢ 0 → (keep_checkpoint w j slice).answer ≡ some k → Unchanged w
    (keep_checkpoint w j slice).after
same-given w k j slice h a = rw (ne_eqb j 0 (rw (some-injective j k a) h)) (still w)

pub refusals-change-nothing : RefusalsChangeNothing
unfolding run
refusals-change-nothing w (start (by_value i) cb sb out) k a h m = rw
    (ne_eqb (started cb sb).number 0 (rw (some-injective (started cb sb).number k a) h.0)) (still w)
refusals-change-nothing w (start (through_c i) cb sb out) k a h m = same-image w i k (node_start cb sb out) h m
    (some-injective (node_start cb sb out).number k a)
refusals-change-nothing w (deliver (by_value i) ab sb out) k a h m =
    same-node w i k (delivered ab sb) (λ n e. deliver-same n ab sb _ (deliver-comes-to n ab sb) (subst Refusal (sym e) h)) (w.nodes i) refl a
refusals-change-nothing w (deliver (through_c i) ab sb out) k a h m = same-held w i k _ h m (w.images i) a
refusals-change-nothing w (query (by_value i) qb out) k a h m =
    same-node w i k (asked qb)
    (λ n e. query-same n qb _ (query-comes-to n qb) (subst Refusal (sym e) h) (λ x. m (subst AddsMiss e x))) (w.nodes i) refl a
refusals-change-nothing w (query (through_c i) qb out) k a h m = same-held w i k _ h m (w.images i) a
refusals-change-nothing w (checkpoint (by_value i) out) k a h m =
    answered (λ o. Unchanged w (checkpoint_node w out o).after) (checkpoint_node w out) k refl
    (λ n. same-given w k (checkpoint_number (checkpoint_of n out).answer) (checkpoint_slice n out) h.0) (w.nodes i) a
refusals-change-nothing w (checkpoint (through_c i) out) k a h m =
    answered (λ o. Unchanged w (checkpoint_image w out o).after) (checkpoint_image w out) k refl
    (λ b. same-given w k (node_checkpoint b out).number (node_checkpoint b out).slice h.0) (w.images i) a

-- ---- a miss

-- what host i was handed, and what every other host holds
put-here : {A : Type 0} (i : ℕ) (x : A) (f : ℕ → Option A) → cond (eqb i i) (some x) (f i) ≡ some x
put-here i x f = rw (eq-eqb i i refl)

put-there : {A : Type 0} (i : ℕ) (x : A) (f : ℕ → Option A) (j : ℕ) → j ≢ i → cond (eqb j i) (some x) (f j) ≡ f j
put-there i x f j n = rw (ne_eqb j i n)

-- a query by value that leaves f of its door
counted-node : (w : Cluster) (i : ℕ) (qb : List ℕ) (f : ℕ → Node → Node) (n : Node) → w.nodes i ≡ some n → CountedAt n qb (asked qb n).node f
    → Counted w (on_node w i (asked qb) (some n)).after (by_value i) qb f
counted-node w i qb f n e c = record {
  query = c.query;
  read = c.read;
  node = n;
  changed = record {
    held = e;
    holds = put-here i (asked qb n).node w.nodes ∙ ap some c.node;
    others = put-there i (asked qb n).node w.nodes;
    images = λ j. refl;
    given = refl;
  };
}

-- a query through C that leaves m misses at its door: the front of the slice is the image
counted-image : (w : Cluster) (i : ℕ) (qb out : List ℕ) (m : ℕ → Node → ℕ) (b : List ℕ) → w.images i ≡ some b
    → let x = on_image (asked qb) b out in
    let f : ℕ → Node → Node = λ door n. with_counts (with_misses door (m door n) n.counts) n in
    Writes x.number → CountedAt (read_image b).node qb (asked qb (read_image b).node).node f → Counted w (keep_image w i x).after (through_c i) qb f
counted-image w i qb out m b e v c =
    let x = on_image (asked qb) b out in
    let on = image-written (asked qb) b out v in
    let n = (read_image b).node in
    let door = c.query.door in
    let f : ℕ → Node → Node = λ door n. with_counts (with_misses door (m door n) n.counts) n in
    let whole : take image_size x.slice ≡ image_bytes (f door n) =
    ap (take image_size) (counted-slice b qb out f c.query on c.node)
    ∙ front (image_bytes (f door n)) out image_size (missed-size b door (m door n) on.read) in
    rw (writes-to x.number v)
    (record {
      query = c.query;
      read = c.read;
      node = n;
      changed = record {
        image = b;
        held = e;
        read = on.read;
        node = refl;
        holds = put-here i (take image_size x.slice) w.images ∙ ap some whole;
        others = put-there i (take image_size x.slice) w.images;
        nodes = λ j. refl;
        given = refl;
      };
    })

-- a miss, and an open answer
missed-node : (w : Cluster) (i k : ℕ) (qb : List ℕ) → AddsMiss k → (o : Option Node) → w.nodes i ≡ o → (on_node w i (asked qb) o).answer ≡ some k
    → Counted w (on_node w i (asked qb) o).after (by_value i) qb one_miss_more
missed-node w i k qb m none e a = clash (cc)
missed-node w i k qb m (some n) e a =
    let q = some-injective (asked qb n).number k a in
    counted-node w i qb one_miss_more n e (query-misses n qb _ (query-comes-to n qb) (subst AddsMiss (sym q) m))

opened-node : (w : Cluster) (i : ℕ) (qb : List ℕ) → (o : Option Node) → w.nodes i ≡ o → (on_node w i (asked qb) o).answer ≡ some 0
    → Counted w (on_node w i (asked qb) o).after (by_value i) qb no_misses_at
opened-node w i qb none e a = clash (cc)
opened-node w i qb (some n) e a =
    counted-node w i qb no_misses_at n e (query-opens n qb _ (query-comes-to n qb) (some-injective (asked qb n).number 0 a))

missed-image : (w : Cluster) (i k : ℕ) (qb out : List ℕ) → AddsMiss k → (o : Option (List ℕ)) → w.images i ≡ o
    → (on_held_image w i (λ b. node_query b qb out) o).answer ≡ some k
    → Counted w (on_held_image w i (λ b. node_query b qb out) o).after (through_c i) qb one_miss_more
unfolding node_query
missed-image w i k qb out m none e a = clash (cc)
missed-image w i k qb out m (some b) e a =
    let miss = subst AddsMiss (sym (some-injective (on_image (asked qb) b out).number k a)) m in
    counted-image w i qb out (λ door n. misses_at door n.counts + 1) b e (miss-writes miss) (image-misses b qb out miss)

opened-image : (w : Cluster) (i : ℕ) (qb out : List ℕ) → (o : Option (List ℕ)) → w.images i ≡ o
    → (on_held_image w i (λ b. node_query b qb out) o).answer ≡ some 0
    → Counted w (on_held_image w i (λ b. node_query b qb out) o).after (through_c i) qb no_misses_at
unfolding node_query
opened-image w i qb out none e a = clash (cc)
opened-image w i qb out (some b) e a =
    let z = some-injective (on_image (asked qb) b out).number 0 a in
    let n = (read_image b).node in
    let x = image-written (asked qb) b out (inl z) in
    counted-image w i qb out (λ door n. 0) b e (inl z) (query-opens n qb _ (query-comes-to n qb) (x.number ∙ z))

-- a checkpoint is given, or refused by 1 or 22
checkpoint-adds-none : (n : Node) (out : List ℕ) → ¬ AddsMiss (checkpoint_number (checkpoint_of n out).answer)
unfolding checkpoint_of
checkpoint-adds-none n out = cond_cases (λ (x : CheckpointAnswer). ¬ AddsMiss (checkpoint_number x)) (leb checkpoint_size (length out))
    (λ e m. omega arith) (λ e m. omega arith)

image-checkpoint-adds-none : (image out : List ℕ) → ¬ AddsMiss (node_checkpoint image out).number
unfolding node_checkpoint
image-checkpoint-adds-none image out =
    cond_cases (λ (x : Returned). ¬ AddsMiss x.number) (read_image image).ok (λ e. checkpoint-adds-none (read_image image).node out)
    (λ e m. omega arith)

-- a call with the number j was not answered k
not-answered : (j k : ℕ) → ¬ AddsMiss j → some j ≡ some k → ¬ AddsMiss k
not-answered j k n a m = n (subst AddsMiss (sym (some-injective j k a)) m)

pub misses-add-one : MissesAddOne
unfolding run node_start node_deliver
misses-add-one w (start (by_value i) cb sb out) k a m = not-answered _ k (start-adds-none cb sb _ (start-comes-to cb sb)) a m
misses-add-one w (start (through_c i) cb sb out) k a m = not-answered _ k (image-start-adds-none cb sb out) a m
misses-add-one w (deliver (by_value i) ab sb out) k a m =
    answered (λ o. ⊥) (on_node w i (delivered ab sb)) k refl (λ n b. not-answered _ k (deliver-adds-none n ab sb _ (deliver-comes-to n ab sb)) b m)
    (w.nodes i) a
misses-add-one w (deliver (through_c i) ab sb out) k a m =
    answered (λ o. ⊥) (on_held_image w i (λ b. on_image (delivered ab sb) b out)) k refl
    (λ b e. not-answered _ k (image-deliver-adds-none b ab sb out) e m) (w.images i) a
misses-add-one w (query (by_value i) qb out) k a m = missed-node w i k qb m (w.nodes i) refl a
misses-add-one w (query (through_c i) qb out) k a m = missed-image w i k qb out m (w.images i) refl a
misses-add-one w (checkpoint (by_value i) out) k a m =
    answered (λ o. ⊥) (checkpoint_node w out) k refl (λ n e. not-answered _ k (checkpoint-adds-none n out) e m) (w.nodes i) a
misses-add-one w (checkpoint (through_c i) out) k a m =
    answered (λ o. ⊥) (checkpoint_image w out) k refl (λ b e. not-answered _ k (image-checkpoint-adds-none b out) e m) (w.images i) a

pub open-clears-one : OpenClearsOne
unfolding run
open-clears-one w (by_value i) qb out a = opened-node w i qb (w.nodes i) refl a
open-clears-one w (through_c i) qb out a = opened-image w i qb out (w.images i) refl a
