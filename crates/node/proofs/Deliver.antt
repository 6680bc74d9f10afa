-- What a deliver comes to.
use mathlib.Core.Path.{◌≡◌, refl, sym, ap, ◌∙◌}
use mathlib.Core.Logic.{◌≢◌}
use mathlib.Core.Bool.{Bool, true, false, cond, and-eq-true_iff, false≢true}
use mathlib.Core.List.{List}
use Prim.Native.Nat.{ℕ, ◌≤◌}
use native.Mathlib.Omega.{arith}
use lib.Dec.{eqb}
use borrow.Author.Tests.{eqb-true, eqb-false, eq-eqb, leb-true, le-leb, not-true}
use Rattle.lists.proofs.Tests.{cond_cases}
use Rattle.binary.specs.Number.{is_same_bytes}
use Rattle.binary.proofs.Same.{same_bytes}
use Rattle.records.specs.declared.Announcement.{Announcement}
use Rattle.std.specs.Prelude.{Option, Some, None}
use Rattle.records.specs.Announcement.{read_announcement}
use Rattle.records.specs.Sheet.{is_sheet}
use Rattle.refusals.proofs.Chains.{passes, passes-rule, not-zero, bounds}
use Rattle.rules.specs.Rules.{time_refusal}
use Rattle.rules.proofs.Passed.{time-within, action-within}
use Rattle.actions.specs.Perform.{without_lapsed}
use Rattle.verdicts.specs.Own.{is_halted, can_vote, voted_otherwise}
use Rattle.verdicts.specs.Verdicts.{deliver_refusal, shows_quorum, vote_refusal}
use Rattle.node.specs.declared.Node.{Node}
use Rattle.node.specs.Reply.{DeliverReply}
use Rattle.node.specs.Answers.{deliver_number}
use Rattle.node.specs.Deliver as Deliver
use Rattle.node.specs.Deliver.{without_quorum, deliver_read, deliver_records, deliver_of}
use Rattle.node.specs.Claims.{MayVote, Accepted, ShowsQuorum, announcement-malformed, sheet-malformed, rule, may-not-vote}
use Rattle.node.specs.Claims.{voted-otherwise, Delivery, refuses, votes, performs, DeliverComesTo}

pub may-vote : (n : Node) → can_vote n.state n.own ≡ true → MayVote n
may-vote n e = let t = simp and-eq-true_iff at e in record { standing = eqb-true _ _ t.0; life = eqb-true _ _ t.1 }

can-vote : (n : Node) → MayVote n → can_vote n.state n.own ≡ true
can-vote n m = rw (eq-eqb _ _ m.standing, eq-eqb _ _ m.life)

-- the rules 3 to 14, on the state without the lapsed proposals
abbrev pub ruled : Node → List ℕ → Announcement → ℕ
ruled n sb a = deliver_refusal (without_lapsed a.day n.state) n.own a sb

pub within-rules : (n : Node) (sb : List ℕ) (a : Announcement) → ruled n sb a ≤ 14
unfolding deliver_refusal
within-rules n sb a =
    let time = time-within n.state.cycle n.state.day a in
    let timely : time_refusal n.state.cycle n.state.day a ≤ 14 = omega (arith, time) in
    search (bounds, action-within) depth 9

module _ (n : Node) (ab sb : List ℕ) where
  -- no number from 3 to 14 applies
  accepted : (a : Announcement) → read_announcement ab ≡ Some a → is_sheet sb ≡ true → ruled n sb a ≡ 0 → Accepted n ab sb a
  unfolding deliver_refusal
  accepted a ra rs z =
      let p = passes-rule (is_halted n.state n.own) 3 _ refl z in
      let q = passes (time_refusal n.state.cycle n.state.day a) _ p.1 in
      record { read = ra; sheet = rs; running = eqb-false _ _ p.0; admitted = record { time = q.0; action = q.1 } }

  module _ (a : Announcement) (acc : Accepted n ab sb a) where
    -- without a quorum: by whether the node may vote, and whether it voted otherwise
    by-vote : ¬ ShowsQuorum n sb → (c : Bool) → can_vote n.state n.own ≡ c → (v : Bool) → voted_otherwise n.own ab ≡ v → Delivery n ab sb
        (without_quorum n ab (vote_refusal n.state n.own ab))
    unfolding vote_refusal
    by-vote few true c true v =
        let t = simp and-eq-true_iff at v in
        let other : n.own.vote ≢ ab =
        λ e. false≢true
        (sym (not-true (is_same_bytes n.own.vote ab) t.1) ∙ ap (λ (b : List ℕ). is_same_bytes n.own.vote b) (sym e) ∙ same_bytes
        n.own.vote) in
        refuses 16 (voted-otherwise a refl acc few t.0 other) (rw (c, v))
    by-vote few true c false v = votes a acc few (may-vote n c) (rw (c, v))
    by-vote few false c w v = refuses 15 (may-not-vote a refl acc few (λ m. false≢true (sym c ∙ can-vote n m))) (rw c)

    by-quorum : Delivery n ab sb (cond (shows_quorum n.state sb) (Deliver.performs n a) (without_quorum n ab (vote_refusal n.state n.own ab)))
    unfolding shows_quorum
    by-quorum =
        cond_cases (Delivery n ab sb) (shows_quorum n.state sb)
        (λ q. performs a acc (leb-true _ _ q) refl)
        (λ q. by-vote (λ h. false≢true (sym q ∙ le-leb _ _ h)) (can_vote n.state n.own) refl (voted_otherwise n.own ab) refl)

  by-rules : (a : Announcement) → read_announcement ab ≡ Some a → is_sheet sb ≡ true → Delivery n ab sb (deliver_read n ab a sb)
  unfolding deliver_read
  by-rules a ra rs =
      cond_cases (Delivery n ab sb) (eqb (ruled n sb a) 0)
      (λ z. by-quorum a (accepted a ra rs (eqb-true _ _ z)))
      (λ z. refuses (ruled n sb a) (rule a ra rs (not-zero _ z) (within-rules n sb a) refl) refl)

  by-records : (o : Option Announcement) → read_announcement ab ≡ o → Delivery n ab sb (deliver_records n ab o sb)
  by-records None e = refuses 1 (announcement-malformed refl e) refl
  by-records (Some a) e = cond_cases (Delivery n ab sb) (is_sheet sb) (by-rules a e) (λ rs. refuses 2 (sheet-malformed a refl e rs) refl)

pub deliver-comes-to : DeliverComesTo
unfolding deliver_of
deliver-comes-to n ab sb = by-records n ab sb (read_announcement ab) refl

-- a delivery that performs nothing leaves the state as it was
delivery-state : (n : Node) (ab sb : List ℕ) (r : DeliverReply) → Delivery n ab sb r → deliver_number r.answer ≢ 0 → r.node.state ≡ n.state
delivery-state n ab sb r (refuses k y e) z = ap (λ (x : DeliverReply). x.node.state) e
delivery-state n ab sb r (votes a acc few m e) z = ap (λ (x : DeliverReply). x.node.state) e
delivery-state n ab sb r (performs a acc q e) z = absurd (z (ap (λ (x : DeliverReply). deliver_number x.answer) e))

pub deliver-keeps-state : (n : Node) (ab sb : List ℕ) → deliver_number (deliver_of n ab sb).answer ≢ 0 → (deliver_of n ab sb).node.state ≡ n.state
deliver-keeps-state n ab sb z = delivery-state n ab sb (deliver_of n ab sb) (deliver-comes-to n ab sb) z
