-- What started is a node, and no step loses one.
use Prim.Native.Nat.{ℕ, ◌+◌, ◌<◌}
use native.Mathlib.Omega.{arith}
use mathlib.Core.Path.{◌≡◌, refl}
use mathlib.Core.Bool.{true, false, and-eq-true_iff}
use mathlib.Core.List.{List}
use borrow.Author.Tests.{ltb-true, ne_eqb}
use Rattle.lists.proofs.Tests.{cond_cases, clash}
use Rattle.state.specs.declared.State.{State}
use Rattle.state.specs.declared.Cycle.{Cycle}
use Rattle.state.specs.Time.{cycle, is_before_cycle, is_same_cycle, last_cycle}
use Rattle.state.specs.WellFormed.{is_well_formed}
use Rattle.checkpoint.specs.Checkpoint.{read_checkpoint}
use Rattle.checkpoint.proofs.Fields.{read-well-formed}
use Rattle.records.specs.declared.Announcement.{Announcement}
use Rattle.actions.specs.Perform.{advance, perform}
use Rattle.node.specs.declared.Node.{Node}
use Rattle.node.specs.StartAnswer.{StartAnswer}
use Rattle.node.specs.StartAnswer as S
use Rattle.node.specs.DeliverAnswer.{DeliverAnswer}
use Rattle.node.specs.DeliverAnswer as D
use Rattle.node.specs.QueryAnswer.{QueryAnswer}
use Rattle.node.specs.QueryAnswer as Q
use Rattle.node.specs.Start.{start_of}
use Rattle.node.specs.Deliver.{deliver_of}
use Rattle.node.specs.Query.{query_of}
use Rattle.node.specs.Claims.{Delivery, Asking, Starting}
use Rattle.node.proofs.Start.{start-comes-to}
use Rattle.node.proofs.Deliver.{deliver-comes-to}
use Rattle.node.proofs.Query.{query-comes-to}
use Rattle.requests.specs.declared.Answer.TheVariants as Answer
use Rattle.requests.specs.Requests.{is_none, answers, deliver_answer, query_answer, start_step}
use Rattle.requests.proofs.Outcomes.{step-cases}
use Rattle.requests.specs.Claims.{KeepsNode, StartsNode}

-- a well-formed state has a cycle
cycle-held : (s : State) → is_well_formed s ≡ true → is_same_cycle s.cycle (cycle 0) ≡ false
unfolding is_well_formed
cycle-held s h =
    let t = simp and-eq-true_iff at h in
    let k : 0 < s.cycle.0 = ltb-true _ _ t.0 in
    ne_eqb s.cycle.0 0 (λ e. absurd (omega arith))

performed-held : (n : Node) (a : Announcement) → is_none n ≡ false → is_same_cycle (perform n.state a).cycle (cycle 0) ≡ false
unfolding perform advance
performed-held n a h =
    cond_cases (λ (c : Cycle). is_same_cycle c (cycle 0) ≡ false) (is_before_cycle n.state.cycle last_cycle)
    (λ _. ne_eqb (n.state.cycle.0 + 1) 0 (λ e. absurd (omega arith)))
    (λ _. h)

-- the node that each call hands back
deliver-held : (n : Node) (ab sb : List ℕ) → is_none n ≡ false → is_none (deliver_of n ab sb).node ≡ false
deliver-held n ab sb h = go (deliver-comes-to n ab sb)
  where
    go : Delivery n ab sb (deliver_of n ab sb) → is_none (deliver_of n ab sb).node ≡ false
    go (Delivery.refuses k w e) = rw e h
    go (Delivery.votes a w q m e) = rw e h
    go (Delivery.performs a w q e) = rw e (performed-held n a h)

query-held : (n : Node) (qb : List ℕ) → is_none n ≡ false → is_none (query_of n qb).node ≡ false
query-held n qb h = go (query-comes-to n qb)
  where
    go : Asking n qb (query_of n qb) → is_none (query_of n qb).node ≡ false
    go (Asking.refuses k l w e) = rw e h
    go (Asking.misses k q l r m w e) = rw e h
    go (Asking.opens q r w e) = rw e h

start-held : (cb sb : List ℕ) → (start_of cb sb).answer ≡ S.Started → is_none (start_of cb sb).node ≡ false
start-held cb sb h = go (start-comes-to cb sb)
  where
    go : Starting cb sb (start_of cb sb) → is_none (start_of cb sb).node ≡ false
    go (Starting.refuses k w e) = clash (cc)
    go (Starting.starts x r o a l e) = rw e (cycle-held (read_checkpoint cb).state (read-well-formed cb o))

pub keeps-node : KeepsNode
keeps-node n b h =
    step-cases n b (λ s. is_none s.node ≡ false) h
    (λ used cb sb _. go used cb sb (start_of cb sb).answer refl)
    (λ used ab sb _. deliver-held n ab sb h)
    (λ used qb _. query-held n qb h)
  where
    go : (used : ℕ) (cb sb : List ℕ) (a : StartAnswer) → (start_of cb sb).answer ≡ a → is_none (start_step n used (start_of cb sb).node a).node ≡ false
    go used cb sb S.Started e = start-held cb sb e
    go used cb sb (S.Refused k) e = h

pub starts-node : StartsNode
starts-node n b =
    step-cases n b (λ s. s.answer ≡ Answer.Started → is_none s.node ≡ false)
    (other n 1)
    (λ used cb sb _. started used cb sb (start_of cb sb).answer refl)
    (λ used ab sb _. delivered (deliver_of n ab sb).node used (deliver_of n ab sb).answer)
    (λ used qb _. asked (query_of n qb).node used (query_of n qb).answer)
  where
    other : (m : Node) (k : ℕ) → Answer.No k ≡ Answer.Started → is_none m ≡ false
    other m k e = clash (cc)

    started : (used : ℕ) (cb sb : List ℕ) (a : StartAnswer) → (start_of cb sb).answer ≡ a
        → let s = start_step n used (start_of cb sb).node a in s.answer ≡ Answer.Started → is_none s.node ≡ false
    started used cb sb S.Started e f = start-held cb sb e
    started used cb sb (S.Refused k) e f = other n k f

    delivered : (m : Node) (used : ℕ) (a : DeliverAnswer)
        → let s = answers m (deliver_answer a) used in s.answer ≡ Answer.Started → is_none s.node ≡ false
    delivered m used D.Done e = clash (cc)
    delivered m used D.Voted e = clash (cc)
    delivered m used (D.Refused k) e = other m k e

    asked : (m : Node) (used : ℕ) (a : QueryAnswer) → let s = answers m (query_answer a) used in s.answer ≡ Answer.Started → is_none s.node ≡ false
    asked m used Q.Open e = clash (cc)
    asked m used (Q.Refused k) e = other m k e
