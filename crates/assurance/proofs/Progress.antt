-- Nodes of one state vote, and the votes of a quorum make them perform.
use mathlib.Core.Path.{◌≡◌, refl, sym, ◌∙◌}
use mathlib.Core.Logic.{◌≢◌, ◌⊎◌, inl, inr}
use mathlib.Core.Bool.{true, false, and-false, and-eq-true_iff}
use mathlib.Core.List.{List, [], ◌∷◌, Memᴰ, map}
use Prim.Native.Nat.{ℕ, suc, ◌≤◌, ◌<◌}
use native.Mathlib.Nat.{le_trans}
use native.Mathlib.Omega.{arith}
use lib.ListN.{length, length-map}
use borrow.Author.Tests.{eq-eqb, ne_eqb, ltb-true, le-leb, lt-leb}
use Rattle.lists.proofs.Tests.{clash}
use Rattle.lists.specs.Fold.{any, count_from}
use Rattle.state.specs.declared.Seat.{Seat}
use Rattle.state.specs.declared.State.{State}
use Rattle.state.specs.Seats.{present, retired, free_seat, seat_at, is_present, quorum, quorum_of}
use Rattle.records.specs.declared.Announcement.{Announcement}
use Rattle.records.specs.Sheet.{Row, level1, level2, rows_of, counts, counted_seats}
use Rattle.records.proofs.Counts.{counts-listed-life}
use Rattle.actions.specs.Claims.{Admitted}
use Rattle.node.specs.declared.Node.{Node}
use Rattle.node.specs.Reply.{DeliverReply}
use Rattle.node.specs.DeliverAnswer.{Voted}
use Rattle.binary.proofs.Same.{same_bytes}
use Rattle.verdicts.specs.Own.{held_seat, voted_otherwise}
use Rattle.verdicts.specs.Verdicts.{deliver_refusal, shows_quorum, vote_refusal}
use Rattle.node.specs.Deliver.{deliver_read, deliver_of}
use Rattle.node.specs.Claims as Claims
use Rattle.node.specs.Claims.{MayVote, Delivery, refuses}
use Rattle.node.proofs.Deliver.{deliver-comes-to}
use Rattle.node.specs.WellFormed.{is_well_formed_own}
use Rattle.node.specs.WellFormed.{WellFormedNode}
use Rattle.records.specs.Sheet.{sheet_of}
use Rattle.records.specs.Claims.{RowInRange}
use Rattle.lists.specs.Fold.{Distinct}
use Rattle.actions.specs.Perform.{without_lapsed}
use Rattle.assurance.specs.Progress.{Votes, QuorumOfVotes, Performs, row_of, Voter, VotesPerform}
use Rattle.lists.proofs.Members.{to_map, of_map, at_least, below}
use Rattle.records.proofs.SheetsBack.{sheets-read-back}

-- No number from 3 to 14 applies.
no-refusal : (n : Node) (sb : List ℕ) (a : Announcement) → (held_seat n.state n.own).standing ≢ retired → Admitted n.state a (level1 sb)
    (level2 sb) → deliver_refusal (without_lapsed a.day n.state) n.own a sb ≡ 0
unfolding deliver_refusal
no-refusal n sb a r d = rw (ne_eqb _ _ r, d.time, d.action)

-- ---- a node votes

quorum-from-one : (s : State) → 1 ≤ quorum_of s
unfolding quorum_of quorum
quorum-from-one s = omega arith

-- No seat counts where there are no rows.
none-counts : (i : ℕ) (seats : List Seat) → count_from (counts []) i seats ≡ 0
unfolding count_from counts any
none-counts i [] = refl
none-counts i (x ∷ xs) = rw (and-false (is_present x), none-counts (suc i) xs)

no-quorum : (s : State) (sb : List ℕ) → rows_of sb ≡ [] → shows_quorum s sb ≡ false
unfolding shows_quorum counted_seats
no-quorum s sb e = rw (e, none-counts 0 s.seats) (lt-leb _ _ (quorum-from-one s))

not-otherwise : (n : Node) (ab : List ℕ) → (n.own.voted ≡ false) ⊎ (n.own.vote ≡ ab) → voted_otherwise n.own ab ≡ false
not-otherwise n ab (inl e) = rw e
not-otherwise n ab (inr e) = rw (e, same_bytes ab) (and-false n.own.voted)

-- Neither 15 nor 16 applies.
no-vote-refusal : (n : Node) (ab : List ℕ) → MayVote n → (n.own.voted ≡ false) ⊎ (n.own.vote ≡ ab) → vote_refusal n.state n.own ab ≡ 0
unfolding vote_refusal
no-vote-refusal n ab m v = rw (eq-eqb _ _ m.standing, eq-eqb _ _ m.life, not-otherwise n ab v)

pub votes : Votes
unfolding deliver_of deliver_read
votes n ab sb a u e m v =
    let running : (held_seat n.state n.own).standing ≢ retired = λ r. let z : ◌≡◌ {A = ℕ} 2 3 = sym m.standing ∙ r in omega arith in
    rw (u.read, u.sheet, no-refusal n sb a running u.admitted, no-quorum n.state sb e, no-vote-refusal n ab m v)

-- ---- a quorum performs

free-seat : (rows : List Row) (i : ℕ) → counts rows i free_seat ≡ false
unfolding counts
free-seat rows i = refl

shows-quorum : (s : State) (sb : List ℕ) → QuorumOfVotes s (rows_of sb) → shows_quorum s sb ≡ true
unfolding shows_quorum counted_seats
shows-quorum s sb q =
    let counted : (i : ℕ) → Memᴰ i q.voters → counts (rows_of sb) i (seat_at i s.seats) ≡ true =
    λ i m. (counts-listed-life (rows_of sb) i _).1 (record { standing = q.standing i m; row = _; listed = q.row i m; seat = refl; life = refl }) in
    le-leb _ _ (le_trans q.enough (at_least (counts (rows_of sb)) free_seat (free-seat (rows_of sb)) s.seats q.voters q.distinct counted))

pub performs : Performs
unfolding deliver_of deliver_read
performs n ab sb a u q r = rw (u.read, u.sheet, no-refusal n sb a r u.admitted, shows-quorum n.state sb q)

-- ---- both joined

-- A node that answers voted may vote.
voted : (n : Node) (ab sb : List ℕ) (r : DeliverReply) → Delivery n ab sb r → r.answer ≡ Voted → MayVote n
voted n ab sb r (refuses k w e) v = clash (cc)
voted n ab sb r (Claims.votes a w few m e) v = m
voted n ab sb r (Claims.performs a w q e) v = clash (cc)

in-range : (n : Node) → WellFormedNode n → RowInRange (row_of n)
unfolding is_well_formed_own
in-range n w = let t = simp and-eq-true_iff at w.own in (ltb-true _ _ t.0, w.fits.1.0.1)

module _ (s : State) (ab : List ℕ) (voters : List Node) (each : (n : Node) → Memᴰ n voters → Voter s ab n) where
  abbrev seat_of : Node → ℕ
  seat_of n = n.own.seat

  may-vote : (n : Node) → Memᴰ n voters → MayVote n
  may-vote n m = let v = each n m in voted n ab v.sheet _ (deliver-comes-to n ab v.sheet) v.answered

  rows-in-range : (r : Row) → Memᴰ r (map row_of voters) → RowInRange r
  rows-in-range = of_map row_of RowInRange voters (λ n m. in-range n (each n m).well-formed)

  few-rows : Distinct (map seat_of voters) → length (map row_of voters) ≤ 64
  few-rows d =
      let t = below 32 (map seat_of voters) d (of_map seat_of (λ i. i < 32) voters (λ n m. (in-range n (each n m).well-formed).0)) in
      omega (arith, length-map voters seat_of, length-map voters row_of)

  quorum-of-votes : Distinct (map seat_of voters) → quorum_of s ≤ length voters → QuorumOfVotes s (map row_of voters)
  quorum-of-votes d enough = record {
    voters = map seat_of voters;
    distinct = d;
    enough = rw (length-map voters seat_of) enough;
    standing = of_map seat_of (λ i. (seat_at i s.seats).standing ≡ present) voters (λ n m. rw (← (each n m).state) (may-vote n m).standing);
    row = of_map seat_of (λ i. Memᴰ (record { seat = i; life = (seat_at i s.seats).life }) (map row_of voters)) voters
        (λ n m. rw (← (each n m).state, (may-vote n m).life) (to_map row_of m));
  }

pub votes-perform : VotesPerform
votes-perform s ab sb a u voters each d enough n h r =
    let b = sheets-read-back (level1 sb) (level2 sb) (map row_of voters) (few-rows s ab voters each d) (rows-in-range s ab voters each) in
    performs n ab (sheet_of (level1 sb) (level2 sb) (map row_of voters)) a
    (rw h (record { read = u.read; sheet = b.well-formed; admitted = rw (b.first, b.second) u.admitted }))
    (rw (h, b.read) (quorum-of-votes s ab voters each d enough))
    r
