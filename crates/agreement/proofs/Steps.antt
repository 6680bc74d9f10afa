-- Every node that a host holds, and every checkpoint that was given, is well formed and of a state that the park reaches.
use mathlib.Core.Path.{◌≡◌, refl, sym, ap, ◌∙◌, subst}
use mathlib.Core.Logic.{◌⊎◌, inl, inr}
use mathlib.Core.Bool.{Bool, true, false, cond}
use mathlib.Core.List.Memᴰ
use mathlib.Core.List.{List, [], ◌∷◌, Memᴰ}
use mathlib.Core.Option.{Option, some, some-injective}
use Prim.Native.Nat.{ℕ}
use native.Mathlib.Omega.{arith}
use lib.Dec.{eqb}
use Rattle.lists.proofs.Tests.{clash}
use Rattle.state.specs.declared.State.{State}
use Rattle.checkpoint.specs.Checkpoint.{CheckpointRead, checkpoint_bytes, read_checkpoint}
use Rattle.checkpoint.proofs.RoundTrips.{state-read-back}
use Rattle.actions.specs.Claims.{WellFormed}
use Rattle.node.specs.declared.Node.{Node}
use Rattle.node.specs.Reply.{StartReply}
use Rattle.node.specs.StartAnswer.{Started}
use Rattle.node.specs.Reply.{DeliverReply}
use Rattle.node.specs.Answers.{start_number, deliver_number}
use Rattle.node.specs.Deliver.{deliver_of}
use Rattle.node.specs.Start.{start_of}
use Rattle.node.specs.Claims as Node
use Rattle.node.specs.Claims.{Delivery, Starting}
use Rattle.node.proofs.Deliver.{deliver-comes-to}
use Rattle.node.proofs.Query.{query-keeps-state}
use Rattle.node.proofs.Start.{start-comes-to}
use Rattle.node.proofs.Numbers.{start-numbers}
use Rattle.image.specs.Image.{image_bytes, read_image}
use Rattle.node.specs.WellFormed.{WellFormedNode}
use Rattle.image.proofs.RoundTrips.{node-read-back}
use Rattle.node.proofs.WellFormedNodes.{start-makes-well-formed, deliver-keeps-well-formed, query-keeps-well-formed}
use Rattle.node_c.specs.Calls.{HandedBack, started, delivered, asked}
use Rattle.agreement.specs.History.{Host, by_value, through_c, Call, start, deliver, query, checkpoint, History, Cluster, empty, Outcome}
use Rattle.agreement.specs.History.{image_node, node_at, put_node, put_image, give, answers, run, Moment, after, moments_from}
use Rattle.agreement.specs.Claims.{Park, ◌∈◌}
use Rattle.agreement.specs.Chain.{Step, Reached, origin, next}
use Rattle.agreement.proofs.Calls.{leave, on_host, run-deliver, run-query, Left, ran, start_by, run-start, start-refused, start-accepted, Gave}
use Rattle.agreement.proofs.Calls.{run-checkpoint}

module _ (first : List ℕ) (calls : History) where
  abbrev pub Reach : State → Type 0
  Reach s = Reached (read_checkpoint first).state (Step calls) s

  pub record Fine (n : Node) : Type 0 where
    pub well-formed : WellFormedNode n
    pub reach : Reach n.state

  -- a checkpoint of a state that the park reaches
  record Known (b : List ℕ) : Type 0 where
    state : State
    bytes : b ≡ checkpoint_bytes state
    well-formed : WellFormed state
    reach : Reach state

  -- an image that is read back
  abbrev pub ReadBack : List ℕ → Type 0
  ReadBack b = (n : Node) × (b ≡ image_bytes n) × (read_image b ≡ record { ok = true; node = n })

  pub record Good (w : Cluster) : Type 0 where
    pub held : (h : Host) (n : Node) → node_at w h ≡ some n → Fine n
    pub reads : (i : ℕ) (b : List ℕ) → w.images i ≡ some b → ReadBack b
    given : (b : List ℕ) → Memᴰ b w.given → Known b

  good-empty : Good empty
  good-empty = record { held = none-held; reads = λ i b e. clash (cc); given = λ b m. absurd (Memᴰ.not-nil m) }
    where
      none-held : (h : Host) (n : Node) → node_at empty h ≡ some n → Fine n
      none-held (by_value i) n e = clash (cc)
      none-held (through_c i) n e = clash (cc)

  -- the image of a well-formed node holds that node
  image-held : (n : Node) → WellFormedNode n → image_node (some (image_bytes n)) ≡ some n
  image-held n w = rw (node-read-back n w)

  good-leave : (w : Cluster) (h : Host) (n : Node) → Good w → Fine n → Good (leave w h n)
  good-leave w (by_value i) n G F = record { held = at; reads = G.reads; given = G.given }
    where
      pick : (x : Node) (o : Option Node) (b : Bool) → (o ≡ some x → Fine x) → cond b (some n) o ≡ some x → Fine x
      pick x o true k e = subst Fine (some-injective n x e) F
      pick x o false k e = k e

      at : (h : Host) (x : Node) → node_at (put_node w i n) h ≡ some x → Fine x
      at (by_value j) x e = pick x (w.nodes j) (eqb j i) (G.held (by_value j) x) e
      at (through_c j) x e = G.held (through_c j) x e
  good-leave w (through_c i) n G F = record { held = at; reads = λ j. back (w.images j) (eqb j i) (G.reads j); given = G.given }
    where
      pick : (x : Node) (o : Option (List ℕ)) (b : Bool) → (image_node o ≡ some x → Fine x) → image_node (cond b (some (image_bytes n)) o) ≡ some x
          → Fine x
      pick x o true k e = subst Fine (some-injective n x (sym (image-held n F.well-formed) ∙ e)) F
      pick x o false k e = k e

      at : (h : Host) (x : Node) → node_at (put_image w i (image_bytes n)) h ≡ some x → Fine x
      at (by_value j) x e = G.held (by_value j) x e
      at (through_c j) x e = pick x (w.images j) (eqb j i) (G.held (through_c j) x) e

      back : (o : Option (List ℕ)) (c : Bool) → ((b : List ℕ) → o ≡ some b → ReadBack b) → (b : List ℕ) → cond c (some (image_bytes n)) o ≡ some b
          → ReadBack b
      back o true k b e =
          let q : image_bytes n ≡ b = some-injective (image_bytes n) b e in
          (n, sym q, ap read_image (sym q) ∙ node-read-back n F.well-formed)
      back o false k b e = k b e

  -- a call on a held node keeps the cluster good, where the node that it hands back is fine
  good-on : (w : Cluster) (h : Host) (f : Node → HandedBack) (out : List ℕ) → Good w
      → ((n : Node) → node_at w h ≡ some n → WellFormedNode (f n).node)
      → ((l : Left w h f (on_host w h f out)) → Reach (f l.node).node.state) → Good (on_host w h f out).after
  good-on w h f out G fine reach = pick (ran w h f out fine)
    where
      pick : ((on_host w h f out).after ≡ w) ⊎ Left w h f (on_host w h f out) → Good (on_host w h f out).after
      pick (inl k) = subst Good (sym k) G
      pick (inr l) = subst Good (sym l.after)
          (good-leave w h (f l.node).node G (record { well-formed = fine l.node l.held; reach = reach l }))

  module _ (park : Park first calls) where
    -- ---- start

    -- the state of a lawful checkpoint is one that the park reaches
    lawful-state : (w : Cluster) (cb : List ℕ) → Good w → (cb ≡ first) ⊎ Memᴰ cb w.given → Reach (read_checkpoint cb).state
    lawful-state w cb G (inl e) = origin (ap (λ (b : List ℕ). (read_checkpoint b).state) e)
    lawful-state w cb G (inr i) =
        let k = G.given cb i in
        let e : read_checkpoint cb ≡ record { ok = true; state = k.state } = ap read_checkpoint k.bytes ∙ state-read-back k.state
        k.well-formed.fits k.well-formed.well-formed in
        subst Reach (ap (λ (c : CheckpointRead). c.state) (sym e)) k.reach

    good_start : (w : Cluster) (h : Host) (cb sb out : List ℕ) → record { before = w; call = start h cb sb out } ∈ calls → Good w → Good
        (run w (start h cb sb out)).after
    good_start w h cb sb out m G = rw (run-start w h cb sb out) (by-starting (start-comes-to cb sb))
      where
        r : HandedBack
        r = started cb sb

        -- an accepted start, from a lawful checkpoint
        accepted : (start_of cb sb).answer ≡ Started → r.node.state ≡ (read_checkpoint cb).state → WellFormedNode r.node
            → ((start_by w h r out).after ≡ w) ⊎ (start_by w h r out ≡ answers 0 (leave w h r.node)) → Good (start_by w h r out).after
        accepted a s f (inl k) = subst Good (sym k) G
        accepted a s f (inr k) =
            let said : (run w (start h cb sb out)).answer ≡ some 0 = ap (λ (x : Outcome). x.answer) (run-start w h cb sb out ∙ k) in
            let reach = subst Reach (sym s) (lawful-state w cb G (park.starts _ m h cb sb out refl said)) in
            subst Good (ap (λ (x : Outcome). x.after) (sym k)) (good-leave w h r.node G (record { well-formed = f; reach = reach }))

        by-starting : Starting cb sb (start_of cb sb) → Good (start_by w h r out).after
        by-starting (Node.refuses k y e) =
            let range = start-numbers y in
            let number : r.number ≡ k = ap (λ (x : StartReply). start_number x.answer) e in
            subst Good (sym (start-refused w h r out (omega arith) (omega arith))) G
        by-starting (Node.starts x rx rc active above e) =
            let a : (start_of cb sb).answer ≡ Started = ap (λ (x : StartReply). x.answer) e in
            let f = start-makes-well-formed cb sb (park.bytes _ m).0 (park.bytes _ m).1 a in
            accepted a (ap (λ (x : StartReply). x.node.state) e) f (start-accepted w h r out (ap start_number a) f)

    -- ---- deliver

    -- the state that a deliver leaves
    deliver-reach : (w : Cluster) (h : Host) (ab sb out : List ℕ) → record { before = w; call = deliver h ab sb out } ∈ calls
        → (l : Left w h (delivered ab sb) (on_host w h (delivered ab sb) out)) → Reach l.node.state
        → (r : DeliverReply) → r ≡ deliver_of l.node ab sb → Delivery l.node ab sb r → Reach r.node.state
    deliver-reach w h ab sb out m l R r q (Node.refuses k y e) = subst (λ (x : DeliverReply). Reach x.node.state) (sym e) R
    deliver-reach w h ab sb out m l R r q (Node.votes a acc few v e) = subst (λ (x : DeliverReply). Reach x.node.state) (sym e) R
    deliver-reach w h ab sb out m l R r q (Node.performs a acc c e) =
        next l.node.state a R
        (record {
          moment = record { before = w; call = deliver h ab sb out };
          in_list = m;
          bytes = ab;
          sheet = sb;
          performed = record {
            host = h;
            out = out;
            node = l.node;
            called = refl;
            held = l.held;
            state = refl;
            answered = ap (λ (x : Outcome). x.answer) (run-deliver w h ab sb out) ∙ l.answered ∙ ap
                (λ (x : DeliverReply). some (deliver_number x.answer)) (sym q ∙ e);
            read = acc.read;
          };
        })
        (ap (λ (x : DeliverReply). x.node.state) e)

    good-deliver : (w : Cluster) (h : Host) (ab sb out : List ℕ) → record { before = w; call = deliver h ab sb out } ∈ calls → Good w → Good
        (run w (deliver h ab sb out)).after
    good-deliver w h ab sb out m G =
        rw (run-deliver w h ab sb out)
        (good-on w h (delivered ab sb) out G
        (λ n e. deliver-keeps-well-formed n ab sb (park.bytes _ m).0 (G.held h n e).well-formed)
        (λ l. deliver-reach w h ab sb out m l (G.held h l.node l.held).reach (deliver_of l.node ab sb) refl
        (deliver-comes-to l.node ab sb)))

    -- ---- query

    good-query : (w : Cluster) (h : Host) (qb out : List ℕ) → Good w → Good (run w (query h qb out)).after
    good-query w h qb out G =
        rw (run-query w h qb out)
        (good-on w h (asked qb) out G
        (λ n e. query-keeps-well-formed n qb (G.held h n e).well-formed)
        (λ l. subst Reach (sym (query-keeps-state l.node qb)) (G.held h l.node l.held).reach))

    -- ---- checkpoint

    good-give : (w : Cluster) (n : Node) → Good w → Fine n → Good (give w (checkpoint_bytes n.state))
    good-give w n G F = record { held = still; reads = G.reads; given = λ b i. known b (Memᴰ.cases_cons i) }
      where
        still : (h : Host) (x : Node) → node_at (give w (checkpoint_bytes n.state)) h ≡ some x → Fine x
        still (by_value i) x e = G.held (by_value i) x e
        still (through_c i) x e = G.held (through_c i) x e

        known : (b : List ℕ) → (b ≡ checkpoint_bytes n.state) ⊎ Memᴰ b w.given → Known b
        known b (inl e) = record {
          state = n.state;
          bytes = e;
          well-formed =
              record { fits = F.well-formed.fits.0; well-formed = F.well-formed.state };
          reach = F.reach;
        }
        known b (inr i) = G.given b i

    good-checkpoint : (w : Cluster) (h : Host) (out : List ℕ) → Good w → Good (run w (checkpoint h out)).after
    good-checkpoint w h out G = pick (run-checkpoint w h out (λ n e. (G.held h n e).well-formed))
      where
        pick : ((run w (checkpoint h out)).after ≡ w) ⊎ Gave w h (run w (checkpoint h out)).after → Good (run w (checkpoint h out)).after
        pick (inl e) = subst Good (sym e) G
        pick (inr g) = subst Good (sym g.given) (good-give w g.node G (G.held h g.node g.held))

    -- ---- the whole list

    good-run : (w : Cluster) (c : Call) → record { before = w; call = c } ∈ calls → Good w → Good (run w c).after
    good-run w (start h cb sb out) m G = good_start w h cb sb out m G
    good-run w (deliver h ab sb out) m G = good-deliver w h ab sb out m G
    good-run w (query h qb out) m G = good-query w h qb out G
    good-run w (checkpoint h out) m G = good-checkpoint w h out G

    all-good : (w : Cluster) (cs : History) → Good w → ((t : Moment) → Memᴰ t (moments_from w cs) → t ∈ calls)
        → (t : Moment) → Memᴰ t (moments_from w cs) → Good t.before × Good (after t)
    unfolding moments_from
    all-good w [] G within t m = absurd (Memᴰ.not-nil m)
    all-good w (c ∷ cs) G within t m = pick (λ i. all-good (run w c).after cs here (λ u j. within u (Memᴰ.tail j)) t i) (Memᴰ.cases_cons m)
      where
        here : Good (run w c).after
        here = good-run w c (within (record { before = w; call = c }) (Memᴰ.head refl)) G

        pick : (Memᴰ t (moments_from (run w c).after cs) → Good t.before × Good (after t))
            → (t ≡ record { before = w; call = c }) ⊎ Memᴰ t (moments_from (run w c).after cs) → Good t.before × Good (after t)
        pick ih (inl e) = rw e (G, here)
        pick ih (inr i) = ih i

    -- before and after every call of the list the cluster is good
    pub always : (t : Moment) → t ∈ calls → Good t.before × Good (after t)
    always t m = all-good empty calls good-empty (λ u i. i) t m
