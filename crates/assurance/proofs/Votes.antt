-- A vote stays with its host until the cycle is over or the host is started again.
use mathlib.Core.Path.{◌≡◌, refl, sym, ap, ◌∙◌, subst}
use mathlib.Core.Logic.{◌⊎◌, inl, inr}
use mathlib.Core.Bool.{Bool, true, false, not, false≢true}
use mathlib.Core.List.{List, [], ◌∷◌, Memᴰ}
use mathlib.Core.Option.{some, some-injective}
use Prim.Native.Nat.{ℕ, ◌<◌}
use native.Mathlib.Omega.{arith}
use lib.Dec.{eqb}
use Rattle.checkpoint.specs.Checkpoint.{checkpoint_bytes}
use Rattle.lists.proofs.Tests.{cond_cases}
use Rattle.state.specs.declared.State.{State}
use Rattle.std.specs.Prelude.{Option, Some, None}
use Rattle.records.specs.declared.Announcement.{Announcement}
use Rattle.records.specs.Announcement.{read_announcement}
use Rattle.records.specs.Sheet.{is_sheet}
use Rattle.actions.specs.Perform.{without_lapsed, perform}
use Rattle.actions.specs.Claims.{Advances}
use Rattle.actions.proofs.Performed.{always-advances}
use Rattle.node.specs.declared.Node.{Node}
use Rattle.node.specs.Reply.{DeliverReply}
use Rattle.node.specs.Reply.{QueryReply}
use Rattle.node.specs.Reply.{StartReply}
use Rattle.node.specs.DeliverAnswer.{DeliverAnswer}
use Rattle.node.specs.DeliverAnswer.{Done, Voted, Refused}
use Rattle.node.specs.Answers.{start_number, deliver_number}
use Rattle.binary.specs.Number.{is_same_bytes}
use Rattle.verdicts.specs.Own.{voted_otherwise, can_vote}
use Rattle.binary.proofs.Same.{bytes_same}
use Rattle.refusals.specs.Refusals.{refuse_if, ◌or_else◌}
use Rattle.node.specs.Deliver as Deliver
use Rattle.verdicts.specs.Verdicts.{deliver_refusal, shows_quorum, vote_refusal}
use Rattle.node.specs.Deliver.{deliver_read, deliver_records, deliver_of}
use Rattle.node.specs.Query.{query_of}
use Rattle.node.specs.Start.{start_of}
use Rattle.node.specs.Claims as Node
use Rattle.node.specs.Claims.{Delivery, Asking, Starting}
use Rattle.node.proofs.Deliver.{deliver-comes-to}
use Rattle.node.proofs.Query.{query-comes-to}
use Rattle.node.proofs.Start.{start-comes-to}
use Rattle.node.proofs.Numbers.{deliver-numbers, start-numbers}
use Rattle.node.specs.WellFormed.{WellFormedNode}
use Rattle.node_c.specs.Calls.{HandedBack, started, delivered, asked}
use Rattle.node.proofs.WellFormedNodes.{start-makes-well-formed, deliver-keeps-well-formed, query-keeps-well-formed}
use Rattle.agreement.specs.History.{Host, by_value, through_c, Call, start, deliver, query, checkpoint, History, Cluster, empty, Outcome}
use Rattle.agreement.specs.History.{node_at, answers, run, Moment, moments_from, moments, after}
use Rattle.agreement.specs.Claims.{◌∈◌, HoldsBytes, Park}
use Rattle.agreement.proofs.Calls.{leave, on_host, run-deliver, run-query, Left, ran, written-left, start_by, run-start, start-refused, start-accepted}
use Rattle.agreement.proofs.Calls.{Gave, run-checkpoint}
use Rattle.agreement.proofs.Steps.{always}
use Rattle.assurance.proofs.Hosts.{leave-here, leave-cases}
use Rattle.assurance.specs.Earned.{VotedAt, Up, here, past, Between, from, later, NoStart}

-- ---- how a node becomes another

data Becomes (y x : Node) : Type 0 where
  stays : x ≡ y → Becomes y x
  delivers : (ab sb : List ℕ) → x ≡ (deliver_of y ab sb).node → Becomes y x
  asks : (qb : List ℕ) → x ≡ (query_of y qb).node → Becomes y x

-- what host g holds comes from what it held
record Held (w : Cluster) (g : Host) (x : Node) : Type 0 where
  node : Node
  held : node_at w g ≡ some node
  becomes : Becomes node x

unmoved : (w v : Cluster) (g : Host) (x : Node) → v ≡ w → node_at v g ≡ some x → Held w g x
unmoved w v g x e h = record { node = x; held = ap (λ (z : Cluster). node_at z g) (sym e) ∙ h; becomes = stays refl }

module _ (first : List ℕ) (calls : History) (park : Park first calls) (g : Host) where
  -- a call on a held node
  on-host : (w : Cluster) (h : Host) (f : Node → HandedBack) (out : List ℕ) → ((n : Node) → node_at w h ≡ some n → WellFormedNode (f n).node)
      → ((n : Node) → Becomes n (f n).node) → (x : Node) → node_at (on_host w h f out).after g ≡ some x → Held w g x
  on-host w h f out fine b x e = at (ran w h f out fine)
    where
      at : ((on_host w h f out).after ≡ w) ⊎ Left w h f (on_host w h f out) → Held w g x
      at (inl k) = unmoved w _ g x k e
      at (inr l) = pick (leave-cases w h g (f l.node).node x (fine l.node l.held) (ap (λ (z : Cluster). node_at z g) (sym l.after) ∙ e))
        where
          pick : ((g ≡ h) × (x ≡ (f l.node).node)) ⊎ (node_at w g ≡ some x) → Held w g x
          pick (inl s) = record {
            node = l.node;
            held = ap (node_at w) s.0 ∙ l.held;
            becomes = subst (Becomes l.node) (sym s.1)
                (b l.node);
          }
          pick (inr k) = record { node = x; held = k; becomes = stays refl }

  module _ (w : Cluster) (fine : (h : Host) (n : Node) → node_at w h ≡ some n → WellFormedNode n) where
    on-start : (h : Host) (cb sb out : List ℕ) → record { before = w; call = start h cb sb out } ∈ calls → NoStart g
        (record { before = w; call = start h cb sb out })
        → (x : Node) → node_at (run w (start h cb sb out)).after g ≡ some x → Held w g x
    on-start h cb sb out m free x e = by (start-comes-to cb sb)
      where
        r : HandedBack
        r = started cb sb

        left : node_at (start_by w h r out).after g ≡ some x
        left = ap (λ (z : Outcome). node_at z.after g) (sym (run-start w h cb sb out)) ∙ e

        by : Starting cb sb (start_of cb sb) → Held w g x
        by (Node.refuses k y q) =
            let range = start-numbers y in
            let number : r.number ≡ k = ap (λ (v : StartReply). start_number v.answer) q in
            unmoved w _ g x (start-refused w h r out (omega arith) (omega arith)) left
        by (Node.starts z rx rc active above q) = pick (start-accepted w h r out (ap (λ (v : StartReply). start_number v.answer) q) f)
          where
            f : WellFormedNode r.node
            f = start-makes-well-formed cb sb (park.bytes _ m).0 (park.bytes _ m).1 (ap (λ (v : StartReply). v.answer) q)

            pick : ((start_by w h r out).after ≡ w) ⊎ (start_by w h r out ≡ answers 0 (leave w h r.node)) → Held w g x
            pick (inl k) = unmoved w _ g x k left
            pick (inr k) = choose (leave-cases w h g r.node x f (ap (λ (o : Outcome). node_at o.after g) (sym k) ∙ left))
              where
                choose : ((g ≡ h) × (x ≡ r.node)) ⊎ (node_at w g ≡ some x) → Held w g x
                choose (inl s) = absurd
                    (free cb sb out (ap (λ (i : Host). start i cb sb out) (sym s.0))
                    (ap (λ (o : Outcome). o.answer) (run-start w h cb sb out ∙ k)))
                choose (inr l) = record { node = x; held = l; becomes = stays refl }

    on_call : (c : Call) → record { before = w; call = c } ∈ calls → NoStart g (record { before = w; call = c })
        → (x : Node) → node_at (run w c).after g ≡ some x → Held w g x
    on_call (start h cb sb out) m free x e = on-start h cb sb out m free x e
    on_call (deliver h ab sb out) m free x e =
        on-host w h (delivered ab sb) out (λ n k. deliver-keeps-well-formed n ab sb (park.bytes _ m).0 (fine h n k)) (λ n. delivers ab sb refl) x
        (ap (λ (z : Outcome). node_at z.after g) (sym (run-deliver w h ab sb out)) ∙ e)
    on_call (query h qb out) m free x e =
        on-host w h (asked qb) out (λ n k. query-keeps-well-formed n qb (fine h n k)) (λ n. asks qb refl) x
        (ap (λ (z : Outcome). node_at z.after g) (sym (run-query w h qb out)) ∙ e)
    on_call (checkpoint h out) m free x e = at (run-checkpoint w h out (fine h))
      where
        still : (i : Host) (b : List ℕ) → node_at (record { nodes = w.nodes; images = w.images; given = b ∷ w.given }) i ≡ node_at w i
        still (by_value i) b = refl
        still (through_c i) b = refl

        at : ((run w (checkpoint h out)).after ≡ w) ⊎ Gave w h (run w (checkpoint h out)).after → Held w g x
        at (inl k) = unmoved w _ g x k e
        at (inr k) = record { node = x; held = sym (still g (checkpoint_bytes k.node.state)) ∙ ap (λ (z : Cluster). node_at z g) (sym k.given) ∙ e; becomes = stays refl }

-- ---- a vote that is kept

-- a node that voted otherwise does not vote
abbrev is_voted : DeliverAnswer → Bool
is_voted Done = false
is_voted Voted = true
is_voted (Refused k) = false

no-vote : (n : Node) (ab sb : List ℕ) → voted_otherwise n.own ab ≡ true → is_voted (deliver_of n ab sb).answer ≡ false
unfolding deliver_of deliver_read vote_refusal
no-vote n ab sb o = by (read_announcement ab)
  where
    by : (x : Option Announcement) → is_voted (deliver_records n ab x sb).answer ≡ false
    by None = refl
    by (Some a) =
        cond_cases (λ (r : DeliverReply). is_voted r.answer ≡ false) (is_sheet sb)
        (λ _. cond_cases (λ (r : DeliverReply). is_voted r.answer ≡ false)
        (eqb (deliver_refusal (without_lapsed a.day n.state) n.own a sb) 0)
        (λ _. cond_cases (λ (r : DeliverReply). is_voted r.answer ≡ false) (shows_quorum n.state sb) (λ _. refl)
        (λ _. at (can_vote n.state n.own)))
        (λ _. refl))
        (λ _. refl)
      where
        at : (b : Bool) → is_voted (Deliver.without_quorum n ab (refuse_if (not b) 15 or_else refuse_if (voted_otherwise n.own ab) 16)).answer ≡ false
        at true = rw o
        at false = refl

-- so a node that votes had not voted, or for the same bytes
same-vote : (n : Node) (ab sb : List ℕ) → (deliver_of n ab sb).answer ≡ Voted → n.own.voted ≡ true → n.own.vote ≡ ab
same-vote n ab sb e v = at (is_same_bytes n.own.vote ab) refl
  where
    at : (b : Bool) → is_same_bytes n.own.vote ab ≡ b → n.own.vote ≡ ab
    at true s = bytes_same n.own.vote ab s
    at false s =
        let o : voted_otherwise n.own ab ≡ true = rw (v, s) in
        absurd (false≢true (sym (no-vote n ab sb o) ∙ ap is_voted e))

-- The node is past cycle c, or in it and has voted for ab.
abbrev pub Marked : ℕ → List ℕ → Node → Type 0
Marked c ab x = (c < x.state.cycle.0) ⊎ ((x.state.cycle.0 ≡ c) × (x.own.voted ≡ true) × (x.own.vote ≡ ab))

module _ (c : ℕ) (ab : List ℕ) where
  by-delivery : (y : Node) (bb sb : List ℕ) (r : DeliverReply) → WellFormedNode y → Marked c ab y → r ≡ deliver_of y bb sb → Delivery y bb sb r
      → Marked c ab r.node
  by-delivery y bb sb r f m q (Node.refuses k z e) = subst (λ (x : DeliverReply). Marked c ab x.node) (sym e) m
  by-delivery y bb sb r f m q (Node.votes a acc few may e) = subst (λ (x : DeliverReply). Marked c ab x.node) (sym e) (at m)
    where
      voted : (deliver_of y bb sb).answer ≡ Voted
      voted = ap (λ (x : DeliverReply). x.answer) (sym q ∙ e)

      at : Marked c ab y → (c < y.state.cycle.0) ⊎ ((y.state.cycle.0 ≡ c) × (true ≡ true) × (bb ≡ ab))
      at (inl l) = inl l
      at (inr k) = inr (k.0, refl, sym (same-vote y bb sb voted k.1) ∙ k.2)
  by-delivery y bb sb r f m q (Node.performs a acc show e) = subst (λ (x : DeliverReply). Marked c ab x.node) (sym e) (inl (at m))
    where
      on : Advances y.state a
      on = always-advances y.state a (record { fits = f.fits.0; well-formed = f.state }) acc.admitted.time

      at : Marked c ab y → c < (perform y.state a).cycle.0
      at (inl l) = let n = on.next in omega arith
      at (inr k) = let n = on.next in let z = k.0 in omega arith

  by-asking : (y : Node) (qb : List ℕ) (r : QueryReply) → Marked c ab y → Asking y qb r → Marked c ab r.node
  by-asking y qb r m (Node.refuses k l z e) = subst (λ (x : QueryReply). Marked c ab x.node) (sym e) m
  by-asking y qb r m (Node.misses k q l rq o z e) = subst (λ (x : QueryReply). Marked c ab x.node) (sym e) m
  by-asking y qb r m (Node.opens q rq o e) = subst (λ (x : QueryReply). Marked c ab x.node) (sym e) m

  becomes-marked : (y x : Node) → WellFormedNode y → Marked c ab y → Becomes y x → Marked c ab x
  becomes-marked y x f m (stays e) = subst (Marked c ab) (sym e) m
  becomes-marked y x f m (delivers bb sb e) = subst (Marked c ab) (sym e) (by-delivery y bb sb _ f m refl (deliver-comes-to y bb sb))
  becomes-marked y x f m (asks qb e) = subst (Marked c ab) (sym e) (by-asking y qb _ m (query-comes-to y qb))

  module _ (first : List ℕ) (calls : History) (park : Park first calls) (g : Host) where
    -- every node that the host holds is marked
    abbrev Kept : Cluster → Type 0
    Kept w = (x : Node) → node_at w g ≡ some x → Marked c ab x

    kept-call : (t : Moment) → t ∈ calls → NoStart g t → Kept t.before → Kept (after t)
    kept-call t m free k x e =
        let fine : (h : Host) (n : Node) → node_at t.before h ≡ some n → WellFormedNode n = λ h n z.
        ((always first calls park t m).0.held h n z).well-formed in
        let l = on_call first calls park g t.before fine t.call m free x e in
        becomes-marked l.node x (fine g l.node l.held) (k l.node l.held) l.becomes

    up : (w : Cluster) (cs : History) (u : Moment) → ((t : Moment) → Memᴰ t (moments_from w cs) → t ∈ calls) → Up (NoStart g) u (moments_from w cs)
        → Kept w → Kept u.before
    unfolding moments_from
    up w (d ∷ cs) u within here k = k
    up w (d ∷ cs) u within (past free r) k =
        up (run w d).after cs u (λ t m. within t (Memᴰ.tail m)) r
        (kept-call (record { before = w; call = d }) (within _ (Memᴰ.head refl)) free k)
    up w [] u within x3 k = elim x3 [ ]

    between : (w : Cluster) (cs : History) (t u : Moment) → ((s : Moment) → Memᴰ s (moments_from w cs) → s ∈ calls)
        → Between (NoStart g) t u (moments_from w cs) → Kept (after t) → Kept u.before
    unfolding moments_from
    between w (d ∷ cs) t u within (from r) k = up (run w d).after cs u (λ s m. within s (Memᴰ.tail m)) r k
    between w (d ∷ cs) t u within (later r) k = between (run w d).after cs t u (λ s m. within s (Memᴰ.tail m)) r k
    between w [] t u within x3 k = elim x3 [ ]

-- ---- two votes

-- what a vote leaves
voted-node : (n : Node) (ab sb : List ℕ) (r : DeliverReply) → Delivery n ab sb r → deliver_number r.answer ≡ 128
    → (r.answer ≡ Voted) × (r.node.state ≡ n.state) × (r.node.own.voted ≡ true) × (r.node.own.vote ≡ ab)
voted-node n ab sb r (Node.refuses k z e) q =
    let range = deliver-numbers z in
    let w : deliver_number r.answer ≡ k = ap (λ (x : DeliverReply). deliver_number x.answer) e in
    absurd (omega arith)
voted-node n ab sb r (Node.votes a acc few may e) q = rw e (refl, refl, refl, refl)
voted-node n ab sb r (Node.performs a acc show e) q =
    let w : deliver_number r.answer ≡ 0 = ap (λ (x : DeliverReply). deliver_number x.answer) e in
    absurd (omega arith)

module _ (first : List ℕ) (calls : History) (park : Park first calls) where
  -- after a vote the host holds the node with that vote
  pub record After (t : Moment) (h : Host) (n : Node) (ab : List ℕ) (v : VotedAt t h n ab) : Type 0 where
    pub voted : (deliver_of n ab v.sheet).answer ≡ Voted
    pub holds : node_at (after t) h ≡ some (deliver_of n ab v.sheet).node
    pub state : (deliver_of n ab v.sheet).node.state ≡ n.state
    pub flag : (deliver_of n ab v.sheet).node.own.voted ≡ true
    pub vote : (deliver_of n ab v.sheet).node.own.vote ≡ ab

  pub after-vote : (t : Moment) (h : Host) (n : Node) (ab : List ℕ) (v : VotedAt t h n ab) → t ∈ calls → After t h n ab v
  after-vote t h n ab v m =
      let w = t.before in
      let sb = v.sheet in
      let is : run w t.call ≡ on_host w h (delivered ab sb) v.out = ap (run w) v.called ∙ run-deliver w h ab sb v.out in
      let bytes = subst HoldsBytes v.called (park.bytes t m) in
      let f : WellFormedNode (deliver_of n ab sb).node = deliver-keeps-well-formed n ab sb bytes.0
      ((always first calls park t m).0.held h n v.held).well-formed in
      let said = ap (λ (x : Outcome). x.answer) (sym is) ∙ v.answered in
      let l = written-left w h (delivered ab sb) v.out n f v.held 128 (inr (inl refl)) said in
      let d = voted-node n ab sb (deliver_of n ab sb) (deliver-comes-to n ab sb) l.0 in
      record {
        voted = d.0;
        holds = ap (λ (x : Outcome). node_at x.after h) is ∙ ap (λ (x : Cluster). node_at x h) l.1 ∙ leave-here w h _ f;
        state = d.1;
        flag = d.2;
        vote = d.3;
      }

  -- A vote that goes on from another in the same cycle is for the same bytes.
  pub one-vote : (t u : Moment) (g h : Host) (n k : Node) (ab bb : List ℕ) → t ∈ calls → u ∈ calls → VotedAt t g n ab → VotedAt u h k bb
      → h ≡ g → k.state.cycle.0 ≡ n.state.cycle.0 → Between (NoStart g) t u (moments calls) → ab ≡ bb
  one-vote t u g h n k ab bb i j v w same cycle b = at (kept k (ap (node_at u.before) (sym same) ∙ w.held))
    where
      A : After t g n ab v
      A = after-vote t g n ab v i

      c : ℕ
      c = n.state.cycle.0

      marked : (x : Node) → node_at (after t) g ≡ some x → Marked c ab x
      marked x e =
          let z : (deliver_of n ab v.sheet).node ≡ x = some-injective _ x (sym A.holds ∙ e) in
          subst (Marked c ab) z (inr (ap (λ (s : State). s.cycle.0) A.state, A.flag, A.vote))

      kept : (x : Node) → node_at u.before g ≡ some x → Marked c ab x
      kept = between c ab first calls park g empty calls t u (λ s m. m) b marked

      at : Marked c ab k → ab ≡ bb
      at (inl l) = absurd (omega arith)
      at (inr e) = sym e.2 ∙ same-vote k bb w.sheet (after-vote u h k bb w j).voted e.1

-- two votes at one moment
pub same-call : (t u : Moment) {g h : Host} {n k : Node} {ab bb : List ℕ} → t ≡ u → VotedAt t g n ab → VotedAt u h k bb → ab ≡ bb
same-call t u {g} {h} {ab = ab} {bb = bb} e v w = let q : deliver g ab v.sheet v.out ≡ deliver h bb w.sheet w.out = sym v.called ∙ ap
    (λ (m : Moment). m.call) e ∙ w.called in cc
