-- Which proposals a deliver drops, and which it keeps.
use mathlib.Core.Path.{◌≡◌, sym, ap, ◌∙◌, subst}
use mathlib.Core.Logic.{◌≢◌}
use mathlib.Core.Bool.{false, not, and-eq-true_iff, true≢false}
use mathlib.Core.List.{List}
use Prim.Native.Nat.{ℕ, ◌-◌}
use native.Mathlib.Omega.{arith}
use lib.ListN.{length}
use Rattle.lists.specs.Table.{keep}
use Rattle.lists.proofs.Tests.{clash}
use Rattle.lists.proofs.Tables.{length-keep, length-fill}
use Rattle.lists.proofs.TableMembers.{to-replace, at-index}
use Rattle.state.specs.declared.Subject.{Subject}
use Rattle.state.specs.Limits.{proposal_rows}
use Rattle.state.specs.Rows.{no_proposal, is_proposal}
use Rattle.state.specs.WellFormed.{are_well_formed_proposals, is_well_formed}
use Rattle.tables.specs.Proposals.{proposals_full, add_proposal, is_lapsed, drop_lapsed}
use Rattle.tables.proofs.Lapse.{lapsed-makes-room, lapsed-is-gone}
use Rattle.records.specs.declared.Announcement.{Announcement}
use Rattle.records.specs.declared.Action.TheVariants.{Propose, Grant}
use Rattle.records.specs.Sheet.{level1, level2}
use Rattle.rules.specs.Rules.{time_refusal, notice_refusal, check_refusal, action_refusal}
use Rattle.refusals.specs.Refusals.{lowest}
use Rattle.actions.specs.Perform.{effect, use_proposal, act, advance, perform}
use Rattle.actions.specs.Claims.{Admitted, Signed}
use Rattle.actions.proofs.Notified.{none-older, row_of}
use Rattle.node.specs.declared.Node.{Node}
use Rattle.node.specs.DeliverAnswer.{Done}
use Rattle.node.specs.Reply.{DeliverReply}
use Rattle.node.specs.Claims.{Delivery, refuses, votes, performs}
use Rattle.node.specs.Applies.{deliver, at, Announces, Applies, no-11, no-13, propose, grant, proposal}
use Rattle.node.proofs.Deliver.{deliver-comes-to}
use Rattle.node.proofs.Lowest.{gives-lowest, lowest-is-given}
use Rattle.assurance.specs.Notice.{Listed}
use Rattle.assurance.proofs.Interference.{performs-done, replied, same-announcement}
use Rattle.assurance.specs.Lapse.{DoneLeavesNoneLapsed, OthersDropNone, ProposeFindsRoom, LapsedNotCancelled}

pub done-leaves-none-lapsed : DoneLeavesNoneLapsed
done-leaves-none-lapsed n ab sb d r m u =
    let p = performs-done n ab sb d in
    let left = ap (λ (x : DeliverReply). x.node.state) (replied n ab sb p) in
    rw left (none-older n.state p.announcement r (subst (Listed r) left m) u)

pub others-drop-none : OthersDropNone
others-drop-none n ab sb = by (deliver-comes-to n ab sb)
  where
    by : {r : DeliverReply} → Delivery n ab sb r → r.answer ≢ Done → r.node.state ≡ n.state
    by (refuses k y e) d = ap (λ (x : DeliverReply). x.node.state) e
    by (votes a acc few v e) d = ap (λ (x : DeliverReply). x.node.state) e
    by (performs a acc q e) d = absurd (d (ap (λ (x : DeliverReply). x.answer) e))

-- ---- a propose

module _ (n : Node) (ab sb : List ℕ) (a : Announcement) (x : Subject) (read : Announces ab a) (proposes : a.action ≡ Propose x)
    (long : length n.state.proposals ≡ proposal_rows) (room : proposals_full (drop_lapsed a.day n.state.proposals) ≡ false) where
  admitted : time_refusal n.state.cycle n.state.day a ≡ 0 → Signed n.state (level1 sb) (level2 sb) a.action → Admitted n.state a
      (level1 sb) (level2 sb)
  unfolding action_refusal notice_refusal check_refusal lowest
  admitted t s = record { time = t; action = rw (s, proposes, room) }

  not_full : ¬ Applies (at n (deliver ab sb)) 11
  not_full (no-11 (propose {a = b} r ax full)) =
      let same = ap (λ (z : Announcement). proposals_full (drop_lapsed z.day n.state.proposals)) (same-announcement ab r read) in
      true≢false (sym full ∙ same ∙ room)
  not_full (no-11 (grant {a = b} {x = y} r ax full)) =
      let w : Grant y ≡ Propose x = sym ax ∙ ap (λ (z : Announcement). z.action) (same-announcement ab r read) ∙ proposes in
      clash (cc)

  listed : Listed (row_of n.state a.day x) (perform n.state a)
  unfolding perform advance act effect use_proposal add_proposal drop_lapsed
  listed =
      let rows = drop_lapsed a.day n.state.proposals in
      let kept = keep (λ r. not (is_lapsed a.day r)) n.state.proposals in
      let fewer = length-keep (λ r. not (is_lapsed a.day r)) n.state.proposals in
      let size = length-fill proposal_rows no_proposal kept (omega arith) in
      rw proposes
      (to-replace (λ r. not (is_proposal r)) (row_of n.state a.day x) (at-index rows (proposal_rows - 1) no_proposal (omega arith)) (ap not room))

pub propose-finds-room : ProposeFindsRoom
propose-finds-room n ab sb a x read proposes long r m e =
    let room = lapsed-makes-room a.day n.state.proposals long r m e in
    record {
      admitted = admitted n ab sb a x read proposes long room;
      not_full = λ f.
          not_full n ab sb a x read proposes long room
          (gives-lowest (at n (deliver ab sb)) 11 f (omega arith) (omega arith)).applies;
      listed = λ d.
          let p = performs-done n ab sb d in
          let left = ap (λ (z : DeliverReply). z.node.state) (replied n ab sb p) in
          let same = same-announcement ab p.accepted.read read in
          subst (Listed (row_of n.state a.day x)) (sym (left ∙ ap (perform n.state) same))
          (listed n ab sb a x read proposes long room);
    }

-- ---- a cancel

pub lapsed-not-cancelled : LapsedNotCancelled
unfolding is_well_formed are_well_formed_proposals
lapsed-not-cancelled n ab sb a read w r cancels m e =
    let proposals = (simp and-eq-true_iff at w).1.1.1.1.0 in
    let applies = no-13 (proposal read cancels (lapsed-is-gone a.day n.state.proposals proposals.0 r m e)) in
    record {
      applies = applies;
      given = λ lower.
          lowest-is-given (at n (deliver ab sb)) 13 (record { tried = (omega arith, omega arith); applies = applies; none-lower = lower });
    }
