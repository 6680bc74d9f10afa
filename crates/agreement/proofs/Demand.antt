-- Demand 3, and the claims that go with it.
use mathlib.Core.Path.{◌≡◌, refl, sym, ap, ◌∙◌, subst}
use mathlib.Core.Bool.{Bool, true, false, cond}
use mathlib.Core.List.{List, List-discrete}
use Prim.Native.Nat.{ℕ, ◌≤◌, ◌<◌}
use native.Mathlib.Decide.{dec_le, ℕ_discrete}
use native.Mathlib.Omega.{arith}
use borrow.Author.Tests.{ltb-true}
use Rattle.state.specs.declared.Day.{Day}
use Rattle.state.specs.declared.Cycle.{Cycle}
use Rattle.state.specs.declared.State.{State}
use Rattle.state.specs.Time.{is_before_day, later_day, days_since}
use Rattle.state.specs.Seats.{quorum_of}
use Rattle.tables.specs.Logins.{is_listed}
use Rattle.records.specs.declared.Announcement.{Announcement}
use Rattle.std.specs.Prelude.{Some}
use Rattle.records.specs.declared.Query.{Query}
use Rattle.records.specs.Announcement.{read_announcement}
use Rattle.records.specs.Sheet.{rows_of, counted_seats}
use Rattle.records.specs.StartQuery.{read_query}
use Rattle.records.proofs.Counts.{quorums-overlap}
use Rattle.checkpoint.specs.Checkpoint.{checkpoint_bytes, read_checkpoint}
use Rattle.actions.specs.Perform.{perform}
use Rattle.actions.specs.Claims.{Advances}
use Rattle.actions.proofs.Performed.{always-advances, end-drops}
use Rattle.node.specs.declared.Node.{Node}
use Rattle.node.specs.Reply.{DeliverReply}
use Rattle.node.specs.Reply.{QueryReply}
use Rattle.node.specs.Answers.{deliver_number, query_number}
use Rattle.node.specs.Deliver.{deliver_of}
use Rattle.node.specs.Query.{query_of}
use Rattle.node.specs.Claims as Node
use Rattle.node.specs.Claims.{Accepted, Delivery, Opens, Asking}
use Rattle.node.proofs.Deliver.{deliver-comes-to}
use Rattle.node.proofs.Query.{query-comes-to}
use Rattle.node.proofs.Numbers.{deliver-numbers, query-numbers}
use Rattle.node_c.specs.Calls.{delivered, asked}
use Rattle.agreement.specs.History.{History, Moment, Outcome, run}
use Rattle.agreement.specs.Claims.{Performed, Opened, PerformedIn, OpenedIn, HeldIn, Park, EquivocationBound, Agreement, Ended, Demand3, AlwaysWellFormed}
use Rattle.agreement.specs.Claims.{GrantedBetween, ImagesReadBack}
use Rattle.agreement.specs.Chain.{Step, Reached, AlwaysReached}
use Rattle.agreement.proofs.Chain.{GrantBetween, agree, days, granted-since}
use Rattle.agreement.proofs.Calls.{run-deliver, run-query, heard}
use Rattle.agreement.proofs.Steps.{always}

-- ---- what a performed deliver and an open answer tell

-- a deliver that hands back 0 has performed the announcement that is read
pub record Does (n : Node) (ab sb : List ℕ) (a : Announcement) : Type 0 where
  pub accepted : Accepted n ab sb a
  pub quorum : quorum_of n.state ≤ counted_seats (rows_of sb) n.state.seats

done : (n : Node) (ab sb : List ℕ) (a : Announcement) → read_announcement ab ≡ Some a → (r : DeliverReply) → Delivery n ab sb r → deliver_number
    r.answer ≡ 0 → Does n ab sb a
done n ab sb a ra r (Node.refuses k y e) z =
    let range = deliver-numbers y in
    let q : deliver_number r.answer ≡ k = ap (λ (x : DeliverReply). deliver_number x.answer) e in
    absurd (omega arith)
done n ab sb a ra r (Node.votes b acc few v e) z =
    let q : deliver_number r.answer ≡ 128 = ap (λ (x : DeliverReply). deliver_number x.answer) e in
    absurd (omega arith)
done n ab sb a ra r (Node.performs b acc c e) z =
    let q : Some b ≡ Some a = sym acc.read ∙ ra in
    let same : b ≡ a = cc in
    subst (Does n ab sb) same (record { accepted = acc; quorum = c })

pub does : (t : Moment) (s : State) (ab : List ℕ) (a : Announcement) (sb : List ℕ) (p : Performed t s ab a sb) → Does p.node ab sb a
does t s ab a sb p =
    let n = p.node in
    let said = ap (λ (x : Outcome). x.answer) (sym (run-deliver t.before p.host ab sb p.out) ∙ ap (run t.before) (sym p.called))
    ∙ p.answered in
    done n ab sb a p.read (deliver_of n ab sb) (deliver-comes-to n ab sb) (heard t.before p.host (delivered ab sb) p.out n p.held said)

pub opened : (n : Node) (qb : List ℕ) (q : Query) → read_query qb ≡ Some q → (r : QueryReply) → Asking n qb r → query_number r.answer ≡ 0 → Opens n q
opened n qb q rq r (Node.refuses k l y e) z =
    let range = query-numbers y in
    let w : query_number r.answer ≡ k = ap (λ (x : QueryReply). query_number x.answer) e in
    absurd (omega arith)
opened n qb q rq r (Node.misses k x l rx m y e) z =
    let w : query_number r.answer ≡ k = ap (λ (x : QueryReply). query_number x.answer) e in
    absurd (omega arith)
opened n qb q rq r (Node.opens p rp o e) z =
    let w : Some p ≡ Some q = sym rp ∙ rq in
    let same : p ≡ q = cc in
    subst (Opens n) same o

pub opens : (u : Moment) (n : Node) (q : Query) → Opened u n q → Opens n q
opens u n q p =
    let said = ap (λ (x : Outcome). x.answer) (sym (run-query u.before p.host p.qb p.out) ∙ ap (run u.before) (sym p.called))
    ∙ p.answered in
    opened n p.qb q p.read (query_of n p.qb) (query-comes-to n p.qb)
    (heard u.before p.host (asked p.qb) p.out n p.held said)

-- the later of the given and the agreed day is not before the given one
pub not-before-given : (a b : Day) → a.0 ≤ (later_day a b).0
not-before-given a b = go (is_before_day a b) refl
  where
    go : (t : Bool) → is_before_day a b ≡ t → a.0 ≤ (cond t b a).0
    go true e = let h = ltb-true a.0 b.0 e in omega arith
    go false e = omega arith

-- ---- a performed deliver call is a step of a chain

abbrev pub as-performed : {calls : History} {s : State} {a : Announcement} → Step calls s a → PerformedIn calls
as-performed {calls} {s} {a} x = record {
  moment = x.moment;
  in_list = x.in_list;
  state = s;
  bytes = x.bytes;
  announcement = a;
  sheet = x.sheet;
  performed = x.performed;
}

abbrev pub taken : {calls : History} (p : PerformedIn calls) → Step calls p.state p.announcement
taken p = record { moment = p.moment; in_list = p.in_list; bytes = p.bytes; sheet = p.sheet; performed = p.performed }

-- ---- the chain of a park's states

module _ (first : List ℕ) (calls : History) (park : Park first calls) where
  abbrev Taken : State → Announcement → Type 0
  Taken = Step calls

  pub advances : (s : State) (a : Announcement) → Taken s a → Advances s a
  advances s a x =
      let p = x.performed in
      let D = does x.moment s x.bytes a x.sheet p in
      let w = ((always first calls park x.moment x.in_list).0.held p.host p.node p.held).well-formed in
      subst (λ (z : State). Advances z a) (sym p.state)
      (always-advances p.node.state a (record { fits = w.fits.0; well-formed = w.state }) D.accepted.admitted.time)

  -- a performed deliver call starts in a state of the chain
  pub from_first : (p : PerformedIn calls) → Reached (read_checkpoint first).state Taken p.state
  from_first p =
      let x = p.performed in
      subst (Reached (read_checkpoint first).state Taken) (sym x.state)
      ((always first calls park p.moment p.in_list).0.held x.host x.node x.held).reach

  module _ (bound : EquivocationBound calls) where
    -- each of two sheets shows a quorum, so they share more seats than the bound allows: the announcements are the same
    pub one : (s : State) (a b : Announcement) → Taken s a → Taken s b → a ≡ b
    one s a b x y = go (List-discrete ℕ_discrete x.bytes y.bytes)
      where
        quorate : (c : Announcement) (z : Taken s c) → quorum_of s ≤ counted_seats (rows_of z.sheet) s.seats
        quorate c z =
            let p = z.performed in
            subst (λ (v : State). quorum_of v ≤ counted_seats (rows_of z.sheet) v.seats) (sym p.state)
            (does z.moment s z.bytes c z.sheet p).quorum

        go : Dec (x.bytes ≡ y.bytes) → a ≡ b
        go (yes e) = let q : Some a ≡ Some b = sym x.performed.read ∙ ap read_announcement e ∙ y.performed.read in cc
        go (no e) =
            let most = bound (as-performed x) (as-performed y) refl e in
            let least = quorums-overlap s (rows_of x.sheet) (rows_of y.sheet) (quorate a x) (quorate b y) in
            absurd (omega arith)

    pub same-state : (n k : HeldIn calls) → n.node.state.cycle ≡ k.node.state.cycle → n.node.state ≡ k.node.state
    same-state n k c =
        let N = ((always first calls park n.moment n.in_list).1.held n.host n.node n.held).reach in
        let K = ((always first calls park k.moment k.in_list).1.held k.host k.node k.held).reach in
        agree (read_checkpoint first).state Taken one advances N K (ap (λ (x : Cycle). x.0) c)

    agreement : Agreement calls
    agreement n k c = ap checkpoint_bytes (same-state n k c)

    -- A login that is not listed after a performed delivery is open beyond D plus S only if it was granted since.
    pub stays_out : (e : PerformedIn calls) (o : OpenedIn calls) → is_listed o.query.login (perform e.state e.announcement).logins ≡ false
        → o.node.state.minima.silence < days_since o.query.day e.announcement.day
        → GrantedBetween calls o.query.login e.state.cycle o.node.state.cycle
    stays_out e o gone late = found (granted-since (read_checkpoint first).state Taken one advances s a login S (taken e) gone N later listed)
      where
        s : State
        s = e.state

        a : Announcement
        a = e.announcement

        n : Node
        n = o.node

        q : Query
        q = o.query

        login : ℕ
        login = q.login

        asked : Opens n q
        asked = opens o.moment n q o.opened

        S : Reached (read_checkpoint first).state Taken s
        S = from_first e

        N : Reached (read_checkpoint first).state Taken n.state
        N = ((always first calls park o.moment o.in_list).0.held o.opened.host n o.opened.held).reach

        later : s.cycle.0 < n.state.cycle.0
        later = pick (dec_le n.state.cycle.0 s.cycle.0)
          where
            pick : Dec (n.state.cycle.0 ≤ s.cycle.0) → s.cycle.0 < n.state.cycle.0
            pick (yes h) =
                let x = days (read_checkpoint first).state Taken one advances N S h in
                let y = (advances s a (taken e)).not-before in
                let z = asked.within-silence in
                let v = not-before-given q.day n.state.day in
                absurd (omega arith)
            pick (no h) = omega arith

        listed : is_listed login n.state.logins ≡ true
        listed = asked.listed

        found : GrantBetween Taken login s.cycle.0 n.state.cycle.0 → GrantedBetween calls login s.cycle n.state.cycle
        found x = (as-performed x.step, x.grants, x.above, x.below)

    ended : Ended calls
    ended e o ends late = stays_out e o (end-drops e.state e.announcement o.query.login ends) late

pub demand-3 : Demand3
demand-3 first calls park bound = (agreement first calls park bound, ended first calls park bound)

pub always-well-formed : AlwaysWellFormed
always-well-formed first calls park n = ((always first calls park n.moment n.in_list).1.held n.host n.node n.held).well-formed

pub always-reached : AlwaysReached
always-reached first calls park n = ((always first calls park n.moment n.in_list).1.held n.host n.node n.held).reach

pub images-read-back : ImagesReadBack
images-read-back first calls park t m = (always first calls park t m).1.reads
