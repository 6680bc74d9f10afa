-- The number that a deliver gives applies.
use mathlib.Core.Path.{◌≡◌, refl, ap}
use mathlib.Core.Logic.{◌≢◌, ◌⊎◌, inl, inr}
use mathlib.Core.Bool.{Bool, true, false, not}
use mathlib.Core.List.{List}
use Prim.Native.Nat.{ℕ, ◌≤◌}
use native.Mathlib.Omega.{arith}
use lib.Dec.{eqb, leb}
use borrow.Author.Tests.{eqb-true, eqb-false, leb-true, ltb-true, not-true, not-false}
use Rattle.lists.proofs.Tests.{or-false-of}
use Rattle.refusals.proofs.Chains.{by-rule, by_part, refused, lowest-one}
use Rattle.state.specs.declared.State.{State}
use Rattle.state.specs.Time.{cycle, is_before_day, is_before_cycle, is_same_cycle, last_cycle}
use Rattle.state.specs.Seats.{free, certified, present, seat_at, is_active}
use Rattle.tables.specs.Proposals.{proposals_full, has_proposal}
use Rattle.tables.specs.Logins.{is_listed, lacks_row}
use Rattle.tables.proofs.Earliest.{lacks-row-in-words}
use Rattle.records.specs.declared.Announcement.{Announcement}
use Rattle.std.specs.Prelude.{Some}
use Rattle.records.specs.declared.Action.{Action}
use Rattle.records.specs.declared.Action.TheVariants as Kind
use Rattle.records.specs.Actions.{kind_of, level_of, subject_of}
use Rattle.records.specs.Announcement.{read_announcement}
use Rattle.records.specs.Sheet.{is_sheet, level1, level2}
use Rattle.rules.specs.Rules.{is_signed, lacks_notice, time_refusal, notice_refusal, quorum_refusal, check_refusal, action_refusal}
use Rattle.actions.specs.Perform.{without_lapsed}
use Rattle.verdicts.specs.Own.{is_halted, held_seat}
use Rattle.verdicts.specs.Verdicts.{deliver_refusal}
use Rattle.node.specs.declared.Node.{Node}
use Rattle.node.specs.Claims.{MayVote, ShowsQuorum}
use Rattle.node.specs.Claims.{DeliverRefused, announcement-malformed, sheet-malformed, rule, may-not-vote, voted-otherwise}
use Rattle.node.specs.Applies.{deliver, at, Tries, of-announcement}
use Rattle.node.specs.Applies.{presents, back, certify, remove, rejoin, propose, grant, proposal, login, NoQuorum, Applies}
use Rattle.node.specs.Applies.{no-1, no-2, no-3, no-4, no-5, no-6, no-7, no-8, no_9}
use Rattle.node.specs.Applies.{no-10, no-11, no-12, no-13, no-14, no-15, no-16}
use Rattle.rules.proofs.Notices.{notice-lacks}
use Rattle.node.proofs.Deliver.{ruled}
use Rattle.node.proofs.LeftSeats.{few-left, presents-leaves, back-leaves, minima-leaves, remove-leaves}

-- the state that the rules on proposals see; rule 8 applies; rule 10's number
abbrev pub seen : Node → Announcement → State
seen n a = without_lapsed a.day n.state

abbrev pub unsigned : Node → List ℕ → Announcement → Bool
unsigned n sb a = not (is_signed n.state (level_of (kind_of a.action)) (level1 sb) (level2 sb))

abbrev pub unnoticed : Node → Announcement → ℕ
unnoticed n a = notice_refusal (seen n a) a.day (subject_of a.action)

module _ {n : Node} {ab sb : List ℕ} {a : Announcement} {k : ℕ} (ra : read_announcement ab ≡ Some a) (low : 1 ≤ k) where
  time-applies : time_refusal n.state.cycle n.state.day a ≡ k → Applies (at n (deliver ab sb)) k
  unfolding time_refusal
  time-applies =
      by-rule (is_before_cycle a.cycle n.state.cycle) 4 _ k refl (λ e t. rw e (no-4 ra (ltb-true _ _ t)))
      (λ _. by-rule (is_before_cycle n.state.cycle a.cycle) 5 _ k refl (λ e t. rw e (no-5 ra (ltb-true _ _ t)))
      (λ _. by-rule (is_same_cycle n.state.cycle last_cycle) 6 _ k refl (λ e t. rw e (no-6 (ap cycle (eqb-true _ _ t))))
      (λ _ e. let r = refused (is_before_day a.day n.state.day) 7 k low e in rw r.0 (no-7 ra (ltb-true _ _ r.1)))))

  check-applies : (x : Action) → a.action ≡ x → check_refusal (seen n a) a.day x ≡ k → Applies (at n (deliver ab sb)) k
  unfolding check_refusal quorum_refusal
  check-applies (Kind.Propose x) ax e =
      let r = refused (proposals_full (seen n a).proposals) 11 k low e in
      rw r.0 (no-11 (propose ra ax r.1))
  check-applies (Kind.Cancel c) ax e =
      let r = refused (not (has_proposal c (seen n a).proposals)) 13 k low e in
      rw r.0 (no-13 (proposal ra ax (not-true _ r.1)))
  check-applies (Kind.Presents i true) ax q =
      by-rule (not (eqb (seat_at i n.state.seats).standing certified)) 9 _ k refl
      (λ e t. rw e (no_9 (presents ra ax (eqb-false _ _ (not-true _ t)))))
      (λ t e.
      let r = refused _ 12 k low e in
      let l = presents-leaves n.state a i ax (eqb-true _ _ (not-false _ t)) in
      rw r.0 (no-12 ra (inl (ap kind_of ax)) (few-left l r.1))) q
  check-applies (Kind.Presents i false) ax q =
      by-rule (not (eqb (seat_at i n.state.seats).standing present)) 9 _ k refl
      (λ e t. rw e (no_9 (back ra ax (eqb-false _ _ (not-true _ t)))))
      (λ t e.
      let r = refused _ 12 k low e in
      let l = back-leaves n.state a i ax (eqb-true _ _ (not-false _ t)) in
      rw r.0 (no-12 ra (inl (ap kind_of ax)) (few-left l r.1))) q
  check-applies (Kind.Certify i life) ax e =
      let r = refused (not (eqb (seat_at i n.state.seats).standing free)) 9 k low e in
      rw r.0 (no_9 (certify ra ax (eqb-false _ _ (not-true _ r.1))))
  check-applies (Kind.Minima x) ax e =
      let r = refused _ 12 k low e in
      rw r.0 (no-12 ra (inr (inl (ap kind_of ax))) (few-left (minima-leaves n.state a x ax) r.1))
  check-applies (Kind.Remove i) ax q =
      by-rule (not (is_active (seat_at i n.state.seats))) 9 _ k refl
      (λ e t. let u = or-false-of _ _ (not-true _ t) in rw e (no_9 (remove ra ax (eqb-false _ _ u.0) (eqb-false _ _ u.1))))
      (λ t e.
      let r = refused _ 12 k low e in
      let l = remove-leaves n.state a i ax (not-false _ t) in
      rw r.0 (no-12 ra (inr (inr (ap kind_of ax))) (few-left l r.1))) q
  check-applies (Kind.Rejoin i life) ax q =
      by-rule (not (is_active (seat_at i n.state.seats))) 9 _ k refl
      (λ e t. let u = or-false-of _ _ (not-true _ t) in rw e (no_9 (rejoin ra ax (eqb-false _ _ u.0) (eqb-false _ _ u.1))))
      (λ _ e. let r = refused (leb life (seat_at i n.state.seats).life) 14 k low e in rw r.0 (no-14 (rejoin ra ax (leb-true _ _ r.1)))) q
  check-applies (Kind.Grant x) ax q =
      by-rule (lacks_row a.day x.login n.state.logins) 11 _ k refl
      (λ e t. rw e (no-11 (grant ra ax ((lacks-row-in-words a.day x.login n.state.logins).lacks t))))
      (λ _ e. let r = refused (is_before_day x.end a.day) 14 k low e in rw r.0 (no-14 (grant ra ax (ltb-true _ _ r.1)))) q
  check-applies (Kind.End l) ax e =
      let r = refused (not (is_listed l n.state.logins)) 13 k low e in
      rw r.0 (no-13 (login ra ax (not-true _ r.1)))

  action-applies : is_sheet sb ≡ true → action_refusal (seen n a) a.day (level1 sb) (level2 sb) a.action ≡ k → Applies (at n (deliver ab sb)) k
  unfolding action_refusal notice_refusal
  action-applies rs =
      by-rule (unsigned n sb a) 8 _ k refl (λ e t. rw e (no-8 ra rs (not-true _ t)))
      (λ _ e. by (lowest-one _ (check_refusal (seen n a) a.day a.action) k e))
    where
      by : (unnoticed n a ≡ k) ⊎ (check_refusal (seen n a) a.day a.action ≡ k) → Applies (at n (deliver ab sb)) k
      by (inl e) =
          let r = refused (lacks_notice (seen n a) a.day (subject_of a.action)) 10 k low e in
          let u = notice-lacks n.state a.day (subject_of a.action) r.1 in
          rw r.0 (no-10 ra u.0 u.1)
      by (inr e) = check-applies a.action refl e

  rules-apply : is_sheet sb ≡ true → ruled n sb a ≡ k → Applies (at n (deliver ab sb)) k
  unfolding deliver_refusal
  rules-apply rs =
      by-rule (is_halted n.state n.own) 3 _ k refl (λ e t. rw e (no-3 (eqb-true _ _ t)))
      (λ _. by_part (time_refusal n.state.cycle n.state.day a) _ k time-applies (action-applies rs))

-- a node that may not vote: "own seat not present or own life not listed"
not-voter : (n : Node) → ¬ MayVote n → ((held_seat n.state n.own).standing ≢ present) ⊎ ((held_seat n.state n.own).life ≢ n.own.life)
not-voter n m = by (eqb (held_seat n.state n.own).standing present) refl
  where
    by : (b : Bool) → eqb (held_seat n.state n.own).standing present ≡ b
        → ((held_seat n.state n.own).standing ≢ present) ⊎ ((held_seat n.state n.own).life ≢ n.own.life)
    by false e = inl (eqb-false _ _ e)
    by true e = inr (λ l. m (record { standing = eqb-true _ _ e; life = l }))

no-quorum : (n : Node) (sb : List ℕ) → is_sheet sb ≡ true → ¬ ShowsQuorum n sb → NoQuorum n sb
no-quorum n sb rs few = record { sheet = rs; few = omega arith }

pub deliver-applies : {n : Node} {ab sb : List ℕ} {k : ℕ} → DeliverRefused n ab sb k
    → Tries (at n (deliver ab sb)) k × Applies (at n (deliver ab sb)) k
deliver-applies (announcement-malformed e r) = (omega arith, rw e (no-1 (of-announcement r)))
deliver-applies (sheet-malformed a e ra r) = (omega arith, rw e (no-2 r))
deliver-applies (rule a ra rs lo hi e) = (omega arith, rules-apply ra lo rs e)
deliver-applies {n} {sb = sb} (may-not-vote a e acc few m) =
    (omega arith, rw e (no-15 acc.read (no-quorum n sb acc.sheet few) (not-voter n m)))
deliver-applies {n} {sb = sb} (voted-otherwise a e acc few v o) = (omega arith, rw e (no-16 acc.read (no-quorum n sb acc.sheet few) v o))
