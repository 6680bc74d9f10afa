-- What the code of a deliver finds and does, joined to the definition: by the state that is seen, the number of the rules, the quorum and the vote.
use mathlib.Core.Path.{◌≡◌, ap, ◌∙◌}
use mathlib.Core.Logic.{◌≢◌}
use mathlib.Core.Bool.{true, false}
use mathlib.Core.List.{List}
use Prim.Native.Nat.{ℕ}
use borrow.Author.Tests.{eq-eqb, ne_eqb}
use Rattle.state.specs.declared.Day.{Day}
use Rattle.state.specs.declared.State.{State}
use Rattle.state.specs.Seats.{quorum_of}
use Rattle.records.specs.declared.Announcement.{Announcement}
use Rattle.actions.specs.Perform.{advance, without_lapsed, perform}
use Rattle.verdicts.specs.Verdicts.{deliver_refusal, shows_quorum, vote_refusal}
use Rattle.node.specs.declared.Node.{Node}
use Rattle.node.specs.Reply.{DeliverReply}
use Rattle.node.specs.Deliver.{refuses_delivery, leaves, votes, deliver_read}

-- The quorum does not look at the proposals.
pub same-quorum : (n : Node) (d : Day) {seen : State} (sb : List ℕ) → seen ≡ without_lapsed d n.state → shows_quorum seen sb ≡ shows_quorum n.state sb
unfolding shows_quorum quorum_of
same-quorum n d sb sees = ap (λ (s : State). shows_quorum s sb) sees

module _ (n : Node) (ab sb : List ℕ) (a : Announcement) (r : DeliverReply) {seen : State} {k : ℕ}
    (sees : seen ≡ without_lapsed a.day n.state) (rules : k ≡ deliver_refusal seen n.own a sb) where
  found : k ≡ deliver_refusal (without_lapsed a.day n.state) n.own a sb
  found = rules ∙ ap (λ (s : State). deliver_refusal s n.own a sb) sees

  pub by-rules : k ≢ 0 → r ≡ refuses_delivery n k → r ≡ deliver_read n ab a sb
  unfolding deliver_read
  by-rules z h = rw (← found, ne_eqb k 0 z) h

  pub by-quorum : k ≡ 0 → shows_quorum n.state sb ≡ true → r ≡ leaves (advance seen a) n.own → r ≡ deliver_read n ab a sb
  unfolding deliver_read perform
  by-quorum z q h = rw (← found, eq-eqb k 0 z, q) (h ∙ ap (λ (s : State). leaves (advance s a) n.own) sees)

  module _ (z : k ≡ 0) (few : shows_quorum n.state sb ≡ false) {v : ℕ} (vote : v ≡ vote_refusal n.state n.own ab) where
    pub by-vote-rules : v ≢ 0 → r ≡ refuses_delivery n v → r ≡ deliver_read n ab a sb
    unfolding deliver_read
    by-vote-rules y h = rw (← found, eq-eqb k 0 z, few, ← vote, ne_eqb v 0 y) h

    pub by-vote : v ≡ 0 → r ≡ votes n ab → r ≡ deliver_read n ab a sb
    unfolding deliver_read
    by-vote y h = rw (← found, eq-eqb k 0 z, few, ← vote, eq-eqb v 0 y) h
