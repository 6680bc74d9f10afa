-- Where a number applies to a deliver, no higher one is given.
use mathlib.Core.Path.{◌≡◌, refl, ap}
use mathlib.Core.Logic.{◌≢◌, ◌⊎◌, inl, inr}
use mathlib.Core.Bool.{Bool, true, false, not}
use mathlib.Core.List.{List}
use Prim.Native.Nat.{ℕ, ◌≤◌, ◌<◌}
use native.Mathlib.Omega.{arith}
use lib.Dec.{eqb, leb}
use borrow.Author.Tests.{eqb-true, eq-eqb, ne_eqb, le-leb, lt-ltb, lt-leb}
use Rattle.lists.proofs.Tests.{cond_cases}
use Rattle.refusals.proofs.Chains.{not-zero, rule-within}
use Rattle.binary.specs.Number.{is_same_bytes}
use Rattle.binary.proofs.Same.{bytes_same}
use Rattle.state.specs.declared.Cycle.{Cycle}
use Rattle.state.specs.declared.Seat.{Seat}
use Rattle.state.specs.declared.State.{State}
use Rattle.state.specs.Time.{is_before_day, is_before_cycle, is_same_cycle, last_cycle}
use Rattle.state.specs.Seats.{free, certified, present, seat_at, is_active, present_seats, quorum_of}
use Rattle.tables.specs.Proposals.{has_proposal, drop_lapsed}
use Rattle.tables.specs.Logins.{is_listed}
use Rattle.tables.proofs.Earliest.{lacks-row-in-words}
use Rattle.records.specs.declared.Announcement.{Announcement}
use Rattle.std.specs.Prelude.{Option, Some, None}
use Rattle.records.specs.declared.Action.{Action}
use Rattle.records.specs.declared.Action.TheVariants as Kind
use Rattle.records.specs.Actions.{kind_of, subject_of}
use Rattle.records.specs.Announcement.{read_announcement}
use Rattle.records.specs.Sheet.{is_sheet, level1, level2, rows_of, counted_seats}
use Rattle.rules.specs.Rules.{time_refusal, notice_refusal, quorum_refusal, check_refusal, action_refusal}
use Rattle.actions.specs.Perform.{without_lapsed, perform}
use Rattle.verdicts.specs.Own.{is_halted, held_seat, can_vote, voted_otherwise}
use Rattle.verdicts.specs.Verdicts.{deliver_refusal, shows_quorum, vote_refusal}
use Rattle.node.specs.declared.Node.{Node}
use Rattle.node.specs.Reply.{DeliverReply}
use Rattle.node.specs.Answers.{deliver_number}
use Rattle.node.specs.Deliver.{deliver_read, deliver_of}
use Rattle.node.specs.Applies.{deliver, at, number_given, Tries, of-announcement}
use Rattle.node.specs.Applies.{presents, back, certify, remove, rejoin, propose, grant, proposal, login, NoQuorum, Applies}
use Rattle.node.specs.Applies.{no-1, no-2, no-3, no-4, no-5, no-6, no-7, no-8, no_9}
use Rattle.node.specs.Applies.{no-10, no-11, no-12, no-13, no-14, no-15, no-16}
use Rattle.node.proofs.DeliverApplies.{seen, unsigned, unnoticed}
use Rattle.refusals.proofs.UpTo.{UpTo, by_itself, in-first, in_rest, in_left, in_right, reaches}
use Rattle.node.proofs.Deliver.{may-vote, ruled, within-rules}
use Rattle.rules.proofs.Passed.{time-within}
use Rattle.rules.proofs.Notices.{lacks-notice}
use Rattle.node.proofs.LeftSeats.{too_few, presents-leaves, back-leaves, minima-leaves, remove-leaves}

-- the rules 3 to 7 and 8 to 14, and one of them that applies
module _ (n : Node) (sb : List ℕ) (a : Announcement) {j : ℕ} where
  in-time : 3 ≤ j → UpTo j (time_refusal n.state.cycle n.state.day a) → UpTo j (ruled n sb a)
  unfolding deliver_refusal
  in-time l h = in_rest _ _ (rule-within (is_halted n.state n.own) 3 j l) (in-first _ _ h)

  in-action : 7 ≤ j → UpTo j (action_refusal (seen n a) a.day (level1 sb) (level2 sb) a.action)
      → UpTo j (ruled n sb a)
  unfolding deliver_refusal
  in-action l h =
      let t = time-within n.state.cycle n.state.day a in
      in_rest _ _ (rule-within (is_halted n.state n.own) 3 j (omega arith))
      (in_rest (time_refusal n.state.cycle n.state.day a) _ (omega arith) h)

  in-check : 8 ≤ j → UpTo j (check_refusal (seen n a) a.day a.action) → UpTo j (ruled n sb a)
  unfolding action_refusal
  in-check l h = in-action (omega arith) (in_rest _ _ (rule-within (unsigned n sb a) 8 j l) (in_right (unnoticed n a) _ h))

  in-notice : 10 ≤ j → UpTo j (unnoticed n a) → UpTo j (ruled n sb a)
  unfolding action_refusal
  in-notice l h =
      let check = check_refusal (seen n a) a.day a.action in
      in-action (omega arith) (in_rest _ _ (rule-within (unsigned n sb a) 8 j (omega arith)) (in_left _ check h))

module _ (n : Node) (ab sb : List ℕ) {j : ℕ} where
  -- A rule applies to a well-formed announcement: by the sheet.
  by-rules : {a : Announcement} → read_announcement ab ≡ Some a → 2 ≤ j → (is_sheet sb ≡ true → UpTo j (ruled n sb a))
      → UpTo j (number_given (at n (deliver ab sb)))
  unfolding deliver_of deliver_read
  by-rules {a} ra l f =
      rw ra
      (cond_cases (λ (r : DeliverReply). UpTo j (deliver_number r.answer)) (is_sheet sb)
      (λ rs. cond_cases (λ (r : DeliverReply). UpTo j (deliver_number r.answer)) (eqb (ruled n sb a) 0)
      (λ z. let some = (f rs).some in let none = eqb-true (ruled n sb a) 0 z in absurd (omega arith))
      (λ z. f rs))
      (λ rs. omega arith))

  -- A rule from 4 to 7 applies, or one that is checked for the action's kind.
  by-time : {a : Announcement} → read_announcement ab ≡ Some a → 3 ≤ j → UpTo j (time_refusal n.state.cycle n.state.day a)
      → UpTo j (number_given (at n (deliver ab sb)))
  by-time {a} ra l h = by-rules ra (omega arith) (λ _. in-time n sb a l h)

  by-check : {a : Announcement} {x : Action} → read_announcement ab ≡ Some a → a.action ≡ x → 8 ≤ j → UpTo j (check_refusal (seen n a) a.day x)
      → UpTo j (number_given (at n (deliver ab sb)))
  by-check {a} ra ax l h = by-rules ra (omega arith) (λ _. in-check n sb a l (rw ax h))

  -- A rule applies whatever is announced.
  by-announcement : 2 ≤ j → ((a : Announcement) → UpTo j (ruled n sb a)) → UpTo j (number_given (at n (deliver ab sb)))
  unfolding deliver_of
  by-announcement l f = by (read_announcement ab) refl
    where
      by : (o : Option Announcement) → read_announcement ab ≡ o → UpTo j (number_given (at n (deliver ab sb)))
      by None e = rw e (omega arith)
      by (Some a) e = by-rules e l (λ _. f a)

  -- Rule 15 or 16 applies.
  by-votes : {a : Announcement} → read_announcement ab ≡ Some a → NoQuorum n sb → 14 ≤ j → UpTo j (vote_refusal n.state n.own ab)
      → UpTo j (number_given (at n (deliver ab sb)))
  unfolding deliver_of deliver_read shows_quorum
  by-votes {a} ra q l h =
      let k = ruled n sb a in
      let high = within-rules n sb a in
      rw (ra, q.sheet, lt-leb (quorum_of n.state) (counted_seats (rows_of sb) n.state.seats) q.few)
      (cond_cases (λ (r : DeliverReply). UpTo j (deliver_number r.answer)) (eqb k 0)
      (λ _. rw (ne_eqb (vote_refusal n.state n.own ab) 0 (let s = h.some in omega arith)) h)
      (λ z. let s = not-zero k z in omega arith))

sheet-up-to : (n : Node) (ab sb : List ℕ) → is_sheet sb ≡ false → UpTo 2 (number_given (at n (deliver ab sb)))
unfolding deliver_of
sheet-up-to n ab sb rs = by (read_announcement ab) refl
  where
    by : (o : Option Announcement) → read_announcement ab ≡ o → UpTo 2 (number_given (at n (deliver ab sb)))
    by None e = rw e (omega arith)
    by (Some a) e = rw (e, rs) (omega arith)

-- The tests of the rules, from their words.
inactive : (x : Seat) → x.standing ≢ certified → x.standing ≢ present → not (is_active x) ≡ true
inactive x c p = rw (ne_eqb x.standing certified c, ne_eqb x.standing present p)

not-kind : {P : Type 0} {k : ℕ} → (k ≡ 3) ⊎ ((k ≡ 5) ⊎ (k ≡ 6)) → k ≢ 3 → k ≢ 5 → k ≢ 6 → P
not-kind (inl e) a b c = absurd (a e)
not-kind (inr (inl e)) a b c = absurd (b e)
not-kind (inr (inr e)) a b c = absurd (c e)

-- Rule 12 applies: it gives its number, or 9 where the seat's standing is unfit.
module _ (s : State) (a : Announcement) (few : present_seats (perform s a).seats < quorum_of (perform s a)) where
  -- the rules that are checked for an action
  abbrev checked : Action → ℕ
  checked x = check_refusal (without_lapsed a.day s) a.day x

  few-up-to : (x : Action) → a.action ≡ x → (kind_of x ≡ 3) ⊎ ((kind_of x ≡ 5) ⊎ (kind_of x ≡ 6)) → UpTo 12 (checked x)
  unfolding check_refusal quorum_refusal
  few-up-to (Kind.Propose x) ax kind = not-kind kind (omega arith) (omega arith) (omega arith)
  few-up-to (Kind.Cancel c) ax kind = not-kind kind (omega arith) (omega arith) (omega arith)
  few-up-to (Kind.Presents i true) ax kind = by (eqb (seat_at i s.seats).standing certified) refl
    where
      by : (b : Bool) → eqb (seat_at i s.seats).standing certified ≡ b → UpTo 12 (checked (Kind.Presents i true))
      by true e = let t = too_few (presents-leaves s a i ax (eqb-true _ _ e)) few in search reaches depth 12
      by false e = let t : not (eqb (seat_at i s.seats).standing certified) ≡ true = ap not e in search reaches depth 12
  few-up-to (Kind.Presents i false) ax kind = by (eqb (seat_at i s.seats).standing present) refl
    where
      by : (b : Bool) → eqb (seat_at i s.seats).standing present ≡ b → UpTo 12 (checked (Kind.Presents i false))
      by true e = let t = too_few (back-leaves s a i ax (eqb-true _ _ e)) few in search reaches depth 12
      by false e = let t : not (eqb (seat_at i s.seats).standing present) ≡ true = ap not e in search reaches depth 12
  few-up-to (Kind.Certify i life) ax kind = not-kind kind (omega arith) (omega arith) (omega arith)
  few-up-to (Kind.Minima x) ax kind = let t = too_few (minima-leaves s a x ax) few in search reaches depth 12
  few-up-to (Kind.Remove i) ax kind = by (is_active (seat_at i s.seats)) refl
    where
      by : (b : Bool) → is_active (seat_at i s.seats) ≡ b → UpTo 12 (checked (Kind.Remove i))
      by true e = let t = too_few (remove-leaves s a i ax e) few in search reaches depth 12
      by false e = let t : not (is_active (seat_at i s.seats)) ≡ true = ap not e in search reaches depth 12
  few-up-to (Kind.Rejoin i life) ax kind = not-kind kind (omega arith) (omega arith) (omega arith)
  few-up-to (Kind.Grant x) ax kind = not-kind kind (omega arith) (omega arith) (omega arith)
  few-up-to (Kind.End l) ax kind = not-kind kind (omega arith) (omega arith) (omega arith)

cannot-vote : (n : Node) → ((held_seat n.state n.own).standing ≢ present) ⊎ ((held_seat n.state n.own).life ≢ n.own.life)
    → not (can_vote n.state n.own) ≡ true
cannot-vote n m = by (can_vote n.state n.own) refl m
  where
    by : (b : Bool) → can_vote n.state n.own ≡ b
        → ((held_seat n.state n.own).standing ≢ present) ⊎ ((held_seat n.state n.own).life ≢ n.own.life) → not b ≡ true
    by false e m = refl
    by true e (inl m) = absurd (m (may-vote n e).standing)
    by true e (inr m) = absurd (m (may-vote n e).life)

voted-other : (n : Node) (ab : List ℕ) → n.own.voted ≡ true → n.own.vote ≢ ab → voted_otherwise n.own ab ≡ true
voted-other n ab v other = by (is_same_bytes n.own.vote ab) refl
  where
    by : (b : Bool) → is_same_bytes n.own.vote ab ≡ b → voted_otherwise n.own ab ≡ true
    by true e = absurd (other (bytes_same _ _ e))
    by false e = rw (v, e)

pub deliver-up-to : {n : Node} {ab sb : List ℕ} {j : ℕ} → Tries (at n (deliver ab sb)) j → Applies (at n (deliver ab sb)) j
    → UpTo j (number_given (at n (deliver ab sb)))
unfolding deliver_of deliver_refusal time_refusal action_refusal notice_refusal check_refusal vote_refusal
deliver-up-to t (no-1 (of-announcement e)) = rw e (omega arith)
deliver-up-to {n} {ab} {sb} t (no-2 h) = sheet-up-to n ab sb h
deliver-up-to {n} {ab} {sb} t (no-3 h) =
    by-announcement n ab sb (omega arith) (λ a. in-first _ _ (by_itself (is_halted n.state n.own) 3 (eq-eqb _ _ h) (omega arith) (omega arith)))
deliver-up-to {n} {ab} {sb} t (no-4 {a = a} ra h) =
    let e : is_before_cycle a.cycle n.state.cycle ≡ true = lt-ltb _ _ h in
    by-time n ab sb ra (omega arith) (search reaches depth 12)
deliver-up-to {n} {ab} {sb} t (no-5 {a = a} ra h) =
    let e : is_before_cycle n.state.cycle a.cycle ≡ true = lt-ltb _ _ h in
    by-time n ab sb ra (omega arith) (search reaches depth 12)
deliver-up-to {n} {ab} {sb} t (no-6 h) =
    let e : is_same_cycle n.state.cycle last_cycle ≡ true = eq-eqb _ _ (ap (λ (c : Cycle). c.0) h) in
    by-announcement n ab sb (omega arith) (λ a. in-time n sb a (omega arith) (search reaches depth 12))
deliver-up-to {n} {ab} {sb} t (no-7 {a = a} ra h) =
    let e : is_before_day a.day n.state.day ≡ true = lt-ltb _ _ h in
    by-time n ab sb ra (omega arith) (search reaches depth 12)
deliver-up-to {n} {ab} {sb} t (no-8 {a = a} ra rs h) =
    by-rules n ab sb ra (omega arith)
    (λ _. in-action n sb a (omega arith) (in-first _ _ (by_itself (unsigned n sb a) 8 (ap not h) (omega arith) (omega arith))))
deliver-up-to {n} {ab} {sb} t (no_9 (presents {i = i} ra ax h)) =
    let e : not (eqb (seat_at i n.state.seats).standing certified) ≡ true = ap not (ne_eqb _ _ h) in
    by-check n ab sb ra ax (omega arith) (search reaches depth 12)
deliver-up-to {n} {ab} {sb} t (no_9 (back {i = i} ra ax h)) =
    let e : not (eqb (seat_at i n.state.seats).standing present) ≡ true = ap not (ne_eqb _ _ h) in
    by-check n ab sb ra ax (omega arith) (search reaches depth 12)
deliver-up-to {n} {ab} {sb} t (no_9 (certify {i = i} ra ax h)) =
    let e : not (eqb (seat_at i n.state.seats).standing free) ≡ true = ap not (ne_eqb _ _ h) in
    by-check n ab sb ra ax (omega arith) (search reaches depth 12)
deliver-up-to {n} {ab} {sb} t (no_9 (remove {i = i} ra ax c p)) =
    let e = inactive (seat_at i n.state.seats) c p in
    by-check n ab sb ra ax (omega arith) (search reaches depth 12)
deliver-up-to {n} {ab} {sb} t (no_9 (rejoin {i = i} ra ax c p)) =
    let e = inactive (seat_at i n.state.seats) c p in
    by-check n ab sb ra ax (omega arith) (search reaches depth 12)
deliver-up-to {n} {ab} {sb} t (no-10 {a = a} ra k h) =
    let e = lacks-notice n.state a.day (subject_of a.action) k h in
    by-rules n ab sb ra (omega arith) (λ _. in-notice n sb a (omega arith) (by_itself _ 10 e (omega arith) (omega arith)))
deliver-up-to {n} {ab} {sb} t (no-11 (propose ra ax h)) =
    by-check n ab sb ra ax (omega arith) (search reaches depth 12)
deliver-up-to {n} {ab} {sb} t (no-11 (grant {a = a} {x = x} ra ax h)) =
    let e = (lacks-row-in-words a.day x.login n.state.logins).none h in
    by-check n ab sb ra ax (omega arith) (search reaches depth 12)
deliver-up-to {n} {ab} {sb} t (no-12 {a = a} ra kind h) =
    by-check n ab sb ra refl (omega arith) (few-up-to n.state a h a.action refl kind)
deliver-up-to {n} {ab} {sb} t (no-13 (proposal {a = a} {c = c} ra ax h)) =
    let e : not (has_proposal c (drop_lapsed a.day n.state.proposals)) ≡ true = ap not h in
    by-check n ab sb ra ax (omega arith) (search reaches depth 12)
deliver-up-to {n} {ab} {sb} t (no-13 (login {l = l} ra ax h)) =
    let e : not (is_listed l n.state.logins) ≡ true = ap not h in
    by-check n ab sb ra ax (omega arith) (search reaches depth 12)
deliver-up-to {n} {ab} {sb} t (no-14 (rejoin {i = i} {life = life} ra ax h)) =
    let e : leb life (seat_at i n.state.seats).life ≡ true = le-leb _ _ h in
    by-check n ab sb ra ax (omega arith) (search reaches depth 12)
deliver-up-to {n} {ab} {sb} t (no-14 (grant {a = a} {x = x} ra ax h)) =
    let e : is_before_day x.end a.day ≡ true = lt-ltb _ _ h in
    by-check n ab sb ra ax (omega arith) (search reaches depth 12)
deliver-up-to {n} {ab} {sb} t (no-15 ra q m) =
    let e = cannot-vote n m in
    by-votes n ab sb ra q (omega arith) (search reaches depth 12)
deliver-up-to {n} {ab} {sb} t (no-16 ra q v o) =
    let e = voted-other n ab v o in
    by-votes n ab sb ra q (omega arith) (search reaches depth 12)
