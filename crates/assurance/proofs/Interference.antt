-- What a checkpoint and deliver's answers do not depend on.
use mathlib.Core.Path.{◌≡◌, refl, sym, ap, ap₂, ◌∙◌, subst}
use mathlib.Core.Bool.{Bool, false}
use mathlib.Core.List.{List}
use Prim.Native.Nat.{ℕ, ◌≤◌}
use native.Mathlib.Omega.{arith}
use borrow.Author.Tests.{eqb-false, ne_eqb, le-leb}
use Rattle.lists.proofs.Tests.{clash}
use Rattle.state.specs.declared.State.{State}
use Rattle.state.specs.Seats.{quorum_of}
use Rattle.records.specs.declared.Announcement.{Announcement}
use Rattle.std.specs.Prelude.{Option, Some, None}
use Rattle.records.specs.Announcement.{read_announcement}
use Rattle.records.specs.Sheet.{is_sheet, level1, level2, rows_of, counted_seats}
use Rattle.actions.specs.Claims.{Admitted}
use Rattle.actions.specs.Perform.{without_lapsed, perform}
use Rattle.refusals.specs.Refusals.{refuse_if, ◌or_else◌}
use Rattle.rules.specs.Rules.{time_refusal, action_refusal}
use Rattle.node.specs.declared.Node.{Node}
use Rattle.node.specs.DeliverAnswer.{Done, Refused}
use Rattle.node.specs.Reply.{DeliverReply}
use Rattle.node.specs.Answers.{deliver_number}
use Rattle.node.specs.Deliver as Deliver
use Rattle.verdicts.specs.Verdicts.{deliver_refusal, shows_quorum}
use Rattle.node.specs.Deliver.{deliver_read, deliver_records, deliver_of}
use Rattle.node.specs.Query.{query_of}
use Rattle.node.specs.Checkpoint.{checkpoint_of, checkpoint_slice}
use Rattle.node.specs.Claims.{Accepted, ShowsQuorum, DeliverRefused, announcement-malformed, sheet-malformed, rule, may-not-vote, voted-otherwise}
use Rattle.node.specs.Claims.{Delivery, refuses, votes, performs}
use Rattle.node.proofs.Deliver.{deliver-comes-to}
use Rattle.node.proofs.Numbers.{deliver-numbers}
use Rattle.node.specs.WellFormed.{is_well_formed_vote, is_well_formed_own}
use Rattle.examples.proofs.Compute.{calls-by-value}
use Rattle.assurance.specs.Interference.{CheckpointOfState, QueryKeepsState, Alike, RulesOfState, QueryKeepsAlike, OwnSeatMatters, SameQuorum}
use Rattle.assurance.specs.Interference.{OrderOfRowsIsFree, MoreIsEnough}
use Rattle.assurance.proofs.Refusals.{deliver-number}
use Rattle.assurance.proofs.More.{action-among, seats-among}

-- ---- the state alone

pub checkpoint-of-state : CheckpointOfState
unfolding checkpoint_of checkpoint_slice
checkpoint-of-state n k e out = (refl, rw e)

pub query-keeps-state : QueryKeepsState
unfolding query_of
query-keeps-state n qb = (refl, refl)

pub query-keeps-alike : QueryKeepsAlike
query-keeps-alike n qb = let k = query-keeps-state n qb in record { state = k.0; halted = rw (k.0, k.1) }

-- a deliver that is read, refused by no rule, and shows a quorum
performed : (n : Node) (ab sb : List ℕ) (a : Announcement) → Accepted n ab sb a → ShowsQuorum n sb → deliver_of n ab sb ≡ Deliver.performs n a
unfolding deliver_of deliver_read deliver_refusal shows_quorum
performed n ab sb a c q = rw (c.read, c.sheet, ne_eqb _ _ c.running, c.admitted.time, c.admitted.action, le-leb _ _ q)

-- what a performed deliver was handed
pub record Performing (n : Node) (ab sb : List ℕ) : Type 0 where
  pub announcement : Announcement
  pub accepted : Accepted n ab sb announcement
  pub quorum : ShowsQuorum n sb

performing : (n : Node) (ab sb : List ℕ) (r : DeliverReply) → Delivery n ab sb r → r.answer ≡ Done → Performing n ab sb
performing n ab sb r (refuses k y e) d = let t = deliver-numbers y in let z : k ≡ 0 = sym (deliver-number e) ∙ ap deliver_number d in absurd
    (omega arith)
performing n ab sb r (votes a acc few v e) d = let z : ◌≡◌ {A = ℕ} 128 0 = sym (deliver-number e) ∙ ap deliver_number d in absurd (omega arith)
performing n ab sb r (performs a acc q e) d = record { announcement = a; accepted = acc; quorum = q }

module _ (n k : Node) (same : Alike n k) (ab sb : List ℕ) where
  -- rules 3 to 14
  refusal-alike : (a : Announcement)
      → deliver_refusal (without_lapsed a.day n.state) n.own a sb ≡ deliver_refusal (without_lapsed a.day k.state) k.own a sb
  unfolding deliver_refusal
  refusal-alike a =
      ap₂ (λ (b : Bool) (s : State). refuse_if b 3 or_else time_refusal s.cycle s.day a
      or_else action_refusal (without_lapsed a.day s) a.day (level1 sb) (level2 sb) a.action)
      same.halted same.state

  -- rule 2, after rule 1
  sheet-alike : (j : ℕ) → is_sheet sb ≡ false → (o : Option Announcement) → (deliver_records n ab o sb).answer ≡ Refused j
      → (deliver_records k ab o sb).answer ≡ Refused j
  sheet-alike j rs None e = e
  sheet-alike j rs (Some a) e = rw rs (rw rs at e)

  refused-alike : (j : ℕ) → j ≤ 14 → (deliver_of n ab sb).answer ≡ Refused j → DeliverRefused n ab sb j → (deliver_of k ab sb).answer ≡ Refused j
  unfolding deliver_of deliver_read
  refused-alike j l d (announcement-malformed e r) = rw (r, e)
  refused-alike j l d (sheet-malformed a e ra rs) = sheet-alike j rs (read_announcement ab) d
  refused-alike j l d (rule a ra rs lo hi e) = rw (ra, rs, ← refusal-alike a, e, ne_eqb j 0 (λ z. omega arith))
  refused-alike j l d (may-not-vote a e acc few v) = absurd (omega arith)
  refused-alike j l d (voted-otherwise a e acc few v o) = absurd (omega arith)

  by-delivery : (j : ℕ) → j ≤ 14 → (deliver_of n ab sb).answer ≡ Refused j → Delivery n ab sb (deliver_of n ab sb) → (deliver_of k ab sb).answer
      ≡ Refused j
  by-delivery j l d (refuses i y e) = refused-alike j l d (subst (DeliverRefused n ab sb) (sym (deliver-number e) ∙ ap deliver_number d) y)
  by-delivery j l d (votes a acc few v e) = let z : 128 ≡ j = sym (deliver-number e) ∙ ap deliver_number d in absurd (omega arith)
  by-delivery j l d (performs a acc q e) =
      let w : Done ≡ Refused j = sym (ap (λ (x : DeliverReply). x.answer) e) ∙ d in
      clash (cc)

  performing-alike : (p : Performing n ab sb) → deliver_of k ab sb ≡ Deliver.performs k p.announcement
  performing-alike p =
      let c = p.accepted in
      performed k ab sb p.announcement
      (record {
        read = c.read;
        sheet = c.sheet;
        running = eqb-false _ _ (sym same.halted ∙ ne_eqb _ _ c.running);
        admitted = subst (λ (s : State). Admitted s p.announcement (level1 sb) (level2 sb)) same.state c.admitted;
      })
      (subst (λ (s : State). quorum_of s ≤ counted_seats (rows_of sb) s.seats) same.state p.quorum)

-- a performed deliver's reply
pub performs-done : (n : Node) (ab sb : List ℕ) → (deliver_of n ab sb).answer ≡ Done → Performing n ab sb
performs-done n ab sb d = performing n ab sb (deliver_of n ab sb) (deliver-comes-to n ab sb) d

pub replied : (n : Node) (ab sb : List ℕ) (p : Performing n ab sb) → deliver_of n ab sb ≡ Deliver.performs n p.announcement
replied n ab sb p = performed n ab sb p.announcement p.accepted p.quorum

pub rules-of-state : RulesOfState
rules-of-state = record {
  refuses = λ n k same ab sb j l d. by-delivery n k same ab sb j l d (deliver-comes-to n ab sb);
  performs = λ n k same ab sb d.
      let p = performs-done n ab sb d in
      let here = replied n ab sb p in
      let there = performing-alike n k same ab sb p in (
        ap (λ (r : DeliverReply). r.answer) there,
        ap (λ (r : DeliverReply). r.node.state) there
            ∙ ap (λ (s : State). perform s p.announcement) (sym same.state)
            ∙ ap (λ (r : DeliverReply). r.node.state) (sym here),
      );
}

pub own-seat-matters : OwnSeatMatters
unfolding calls-by-value is_well_formed_vote is_well_formed_own
own-seat-matters = record { well-formed = refl; own = (refl, refl); running = refl; halted = refl }

-- ---- the sheet

-- the announcement is read the same
pub same-announcement : (ab : List ℕ) {a b : Announcement} → read_announcement ab ≡ Some a → read_announcement ab ≡ Some b → a ≡ b
same-announcement ab p q = let r = sym p ∙ q in cc

pub same-quorum : SameQuorum
same-quorum = record {
  reply = λ n ab sb tb d e.
      let p = performs-done n ab sb d in
      let q = performs-done n ab tb e in
      replied n ab sb p ∙ ap (Deliver.performs n) (same-announcement ab p.accepted.read q.accepted.read) ∙ sym (replied n ab tb q);
  state = λ n k s ab sb tb d e.
      let p = performs-done n ab sb d in
      let q = performs-done k ab tb e in
      ap (λ (r : DeliverReply). r.node.state) (replied n ab sb p)
      ∙ ap₂ perform s (same-announcement ab p.accepted.read q.accepted.read)
      ∙ ap (λ (r : DeliverReply). r.node.state) (sym (replied k ab tb q));
}

pub order-of-rows-is-free : OrderOfRowsIsFree
unfolding deliver_of deliver_read deliver_refusal shows_quorum
order-of-rows-is-free sb tb h n ab = go (read_announcement ab)
  where
    count : counted_seats (rows_of sb) n.state.seats ≡ counted_seats (rows_of tb) n.state.seats
    count = omega (arith, seats-among sb tb h.there n.state.seats, seats-among tb sb h.back n.state.seats)

    go : (o : Option Announcement) → deliver_records n ab o sb ≡ deliver_records n ab o tb
    go None = refl
    go (Some a) = rw (h.sheets.0, h.sheets.1, h.mask1, h.mask2, count)

pub more-is-enough : MoreIsEnough
more-is-enough n ab sb tb d h =
    let p = performs-done n ab sb d in
    let c = p.accepted in
    let a = p.announcement in
    let more : Accepted n ab tb a = record {
      read = c.read;
      sheet = h.sheet;
      running = c.running;
      admitted = record {
        time = c.admitted.time;
        action = action-among (without_lapsed a.day n.state) a.day _ _ _ _ h.mask1 h.mask2 a.action c.admitted.action;
      };
    } in
    let shows : ShowsQuorum n tb = omega (arith, p.quorum, seats-among sb tb h.rows n.state.seats) in
    performed n ab tb a more shows ∙ sym (replied n ab sb p)
