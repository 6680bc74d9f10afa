-- No call by value hands back a node that is not well formed.
use mathlib.Core.Path.{◌≡◌, refl, sym, ap, ◌∙◌}
use mathlib.Core.Logic.{◌≢◌}
use mathlib.Core.Bool.{true, and-eq-true_iff}
use mathlib.Core.List.{List, [], ◌∷◌}
use Prim.Native.Nat.{ℕ, zero, suc, ◌+◌, ◌^◌, ◌≤◌, ◌<◌}
use native.Mathlib.Omega.{arith}
use lib.ListN.{length, length-set, set, replicate}
use borrow.Author.Tests.{eqb-false, eq-eqb, ne_eqb, leb-true, le-leb, ltb-true, lt-ltb, not-true}
use Rattle.lists.specs.Fold.{all}
use Rattle.lists.proofs.Every.{all_set}
use Rattle.lists.proofs.Tests.{clash}
use Rattle.binary.specs.Number.{Bytes}
use Rattle.binary.specs.Codec.{byte, FitsRows}
use Rattle.binary.proofs.Codec.{fits_each, fits_count, fits-rows}
use Rattle.state.specs.declared.Cycle.{Cycle}
use Rattle.state.specs.declared.State.{State}
use Rattle.state.specs.Limits.{seat_count}
use Rattle.state.specs.Seats.{free, seat_at, is_active}
use Rattle.state.proofs.SeatLaws.{well-formed-held, active-not-free}
use Rattle.records.specs.declared.Announcement.{Announcement}
use Rattle.std.specs.Prelude.{Some}
use Rattle.records.specs.Layout.{announcement_size, door_count}
use Rattle.records.specs.Announcement.{read_announcement}
use Rattle.records.specs.Sheet.{level1, level2}
use Rattle.records.proofs.Ranges.{announcements-in-range, starts-in-range}
use Rattle.checkpoint.specs.Checkpoint.{read_checkpoint}
use Rattle.checkpoint.proofs.Earlier.{accepted-state}
use Rattle.actions.specs.Perform.{perform}
use Rattle.actions.specs.Claims as Actions
use Rattle.actions.proofs.Sound.{sound-of, seat-good}
use Rattle.actions.proofs.Performed.{keeps-well-formed, always-advances, never-frees}
use Rattle.verdicts.specs.declared.Own.{Own}
use Rattle.node.specs.declared.Node.{Node}
use Rattle.node.specs.Reply.{DeliverReply}
use Rattle.node.specs.Reply.{QueryReply}
use Rattle.node.specs.Reply.{StartReply}
use Rattle.node.specs.StartAnswer.{Started, Refused}
use Rattle.verdicts.specs.Own.{own_afresh, with_vote}
use Rattle.verdicts.specs.Attempts.{most_misses, misses_at, with_misses, no_misses, are_in_range}
use Rattle.verdicts.proofs.Misses.{still-in-range}
use Rattle.node.specs.Query.{with_counts, query_of}
use Rattle.node.specs.Deliver.{deliver_of}
use Rattle.node.specs.Start.{start_of}
use Rattle.node.specs.Claims as Comes
use Rattle.node.specs.Claims.{Delivery, Asking, Starting}
use Rattle.node.proofs.Deliver.{deliver-comes-to}
use Rattle.node.proofs.Query.{query-comes-to}
use Rattle.node.proofs.Start.{start-comes-to}
use Rattle.node.specs.WellFormed.{is_read_in, is_well_formed_vote, is_well_formed_own}
use Rattle.node.specs.WellFormed.{WellFormedNode, StartMakesWellFormed, DeliverKeepsWellFormed, QueryKeepsWellFormed}

-- what it says that a node's own part is well formed
record OwnIs (s : State) (o : Own) : Type 0 where
  seat : o.seat < seat_count
  held : (seat_at o.seat s.seats).standing ≢ free
  life : 1 ≤ o.life
  vote : is_well_formed_vote s.cycle o.voted o.vote ≡ true

own_is : (s : State) (o : Own) → is_well_formed_own s o ≡ true → OwnIs s o
unfolding is_well_formed_own
own_is s o e =
    let t = simp and-eq-true_iff at e in
    record {
      seat = ltb-true _ _ t.0;
      held = eqb-false _ _ (not-true _ t.1.0);
      life = leb-true _ _ t.1.1.0;
      vote = t.1.1.1;
    }

own-well-formed : (s : State) (o : Own) → OwnIs s o → is_well_formed_own s o ≡ true
unfolding is_well_formed_own
own-well-formed s o p = rw (lt-ltb _ _ p.seat, ne_eqb _ _ p.held, le-leb _ _ p.life) p.vote

-- a vote of 24 bytes fits its place
bytes_fit : (n : ℕ) (b : List ℕ) → length b ≡ n → Bytes b → FitsRows byte n b
unfolding FitsRows
bytes_fit zero [] e h = tt
bytes_fit zero (x ∷ xs) e h = absurd (omega arith)
bytes_fit (suc n) [] e h = absurd (omega arith)
bytes_fit (suc n) (x ∷ xs) e h = (h 0, bytes_fit n xs (omega arith) (λ i. h (suc i)))

zeros-fit : (n : ℕ) → FitsRows byte n (replicate n 0)
unfolding FitsRows
zeros-fit zero = tt
zeros-fit (suc n) = (omega arith, zeros-fit n)

-- a node that has no vote and no misses
afresh : (s : State) (seat life : ℕ) → Actions.WellFormed s → seat < seat_count → (seat_at seat s.seats).standing ≢ free → 1 ≤ life → life < 2 ^ 32
    → WellFormedNode (record { state = s; own = own_afresh seat life; counts = no_misses })
unfolding is_well_formed_vote are_in_range all
afresh s seat life w i h l u = record {
  fits = (w.fits, ((omega arith, omega arith), ((omega arith, zeros-fit announcement_size), zeros-fit door_count)));
  state = w.well-formed;
  own = own-well-formed s (own_afresh seat life) (record { seat = i; held = h; life = l; vote = refl });
  counts = refl;
}

-- a node after a vote for an announcement of its cycle
voted : (n : Node) (ab : List ℕ) (a : Announcement) → read_announcement ab ≡ Some a → a.cycle ≡ n.state.cycle → length ab ≡ announcement_size
    → Bytes ab
    → WellFormedNode n → WellFormedNode (record { state = n.state; own = with_vote ab n.own; counts = n.counts })
unfolding is_well_formed_vote
voted n ab a ra same long h w =
    let o = own_is n.state n.own w.own in
    let f = w.fits.1 in
    let vote : is_read_in n.state.cycle (read_announcement ab) ≡ true =
    ap (is_read_in n.state.cycle) ra ∙ eq-eqb a.cycle.0 n.state.cycle.0 (ap (λ (c : Cycle). c.0) same) in
    record {
      fits = (w.fits.0, (f.0, ((omega arith, bytes_fit announcement_size ab long h), f.1.1)));
      state = w.state;
      own = own-well-formed n.state (with_vote ab n.own)
          (record { seat = o.seat; held = o.held; life = o.life; vote = vote });
      counts = w.counts;
    }

-- a table of bytes fits its place with another byte in it
set-fits : (k : ℕ) (l : List ℕ) (i m : ℕ) → m < 256 → FitsRows byte k l → FitsRows byte k (set l i m)
set-fits k l i m h f = rw (length-set l i m ∙ fits_count byte k l f) at (fits-rows byte (all_set i (fits_each byte k l f) h))

-- a node with another number of misses at a door
missed : (n : Node) (door m : ℕ) → m ≤ most_misses → WellFormedNode n → WellFormedNode (with_counts (with_misses door m n.counts) n)
missed n door m h w =
    let f = w.fits.1 in
    record {
      fits = (w.fits.0, (f.0, (f.1.0, set-fits door_count n.counts.misses door m (omega arith) f.1.1)));
      state = w.state;
      own = w.own;
      counts = still-in-range n.counts door m w.counts h;
    }

-- ---- deliver

by-delivery : (n : Node) (ab sb : List ℕ) (r : DeliverReply) → Delivery n ab sb r → Bytes ab → WellFormedNode n → WellFormedNode r.node
by-delivery n ab sb r (Comes.refuses k y e) h w = rw e w
by-delivery n ab sb r (Comes.votes a acc few m e) h w =
    let same = (always-advances n.state a (record { fits = w.fits.0; well-formed = w.state }) acc.admitted.time).this in
    rw e (voted n ab a acc.read same (announcements-in-range ab a h acc.read).0 h w)
by-delivery n ab sb r (Comes.performs a acc q e) h w =
    let o = own_is n.state n.own w.own in
    let before : Actions.WellFormed n.state = record { fits = w.fits.0; well-formed = w.state } in
    let next = keeps-well-formed n.state a (level1 sb) (level2 sb) before (announcements-in-range ab a h acc.read).1 acc.admitted in
    rw e
    (afresh (perform n.state a) n.own.seat n.own.life next o.seat (never-frees n.state a n.own.seat o.held) o.life
    w.fits.1.0.1)

pub deliver-keeps-well-formed : DeliverKeepsWellFormed
deliver-keeps-well-formed n ab sb h w = by-delivery n ab sb (deliver_of n ab sb) (deliver-comes-to n ab sb) h w

-- ---- query

by-asking : (n : Node) (qb : List ℕ) (r : QueryReply) → Asking n qb r → WellFormedNode n → WellFormedNode r.node
by-asking n qb r (Comes.refuses k l y e) w = rw e w
by-asking n qb r (Comes.misses k q l rq m y e) w = rw e (missed n q.door (misses_at q.door n.counts + 1) (omega arith) w)
by-asking n qb r (Comes.opens q rq o e) w = rw e (missed n q.door 0 (omega arith) w)

pub query-keeps-well-formed : QueryKeepsWellFormed
query-keeps-well-formed n qb w = by-asking n qb (query_of n qb) (query-comes-to n qb) w

-- ---- start

-- an active seat of a well-formed state is not free, and has a life
active-seat : (s : State) (i : ℕ) → Actions.WellFormed s → is_active (seat_at i s.seats) ≡ true
    → ((seat_at i s.seats).standing ≢ free) × (1 ≤ (seat_at i s.seats).life)
active-seat s i w a =
    let free-not = active-not-free (seat_at i s.seats) a in
    (free-not, (well-formed-held (seat_at i s.seats) (seat-good (sound-of s w) i).1 free-not).life)

by-starting : (cb sb : List ℕ) (r : StartReply) → Starting cb sb r → Bytes cb → Bytes sb → r.answer ≡ Started → WellFormedNode r.node
by-starting cb sb r (Comes.refuses k y e) hc hs a = let q : Refused k ≡ Started = sym (ap (λ (x : StartReply). x.answer) e) ∙ a in clash (cc)
by-starting cb sb r (Comes.starts x rx rc active above e) hc hs a =
    let s = (read_checkpoint cb).state in
    let b = accepted-state cb hc rc in
    let w : Actions.WellFormed s = record { fits = b.0; well-formed = b.1 } in
    let i = starts-in-range sb x hs rx in
    let p = active-seat s x.seat w active in
    rw e (afresh s x.seat x.life w i.0 p.0 (omega arith) i.1)

pub start-makes-well-formed : StartMakesWellFormed
start-makes-well-formed cb sb hc hs a = by-starting cb sb (start_of cb sb) (start-comes-to cb sb) hc hs a
