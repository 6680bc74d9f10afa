-- A checkpoint read: its fields at their places, and what the tests come to.
use Prim.Native.Nat.{ℕ, ◌+◌, ◌*◌, ◌≤◌, ◌<◌}
use native.Mathlib.Nat.{add-zero, mul_comm}
use native.Mathlib.Omega.{arith}
use mathlib.Core.Path.{◌≡◌, refl, sym, ap, ◌∙◌}
use mathlib.Core.Logic.{◌≢◌}
use mathlib.Core.Bool.{Bool, true, false, cond, ◌&&◌, ◌||◌, and-eq-true_iff, and-false}
use mathlib.Core.List.{List}
use lib.Dec.{eqb, leb}
use lib.ListN.{length, get_or, drop}
use lib.Seq.{get_or-drop, drop-drop}
use borrow.Author.Tests.{eqb-true}
use Rattle.lists.specs.Fold.{all, count}
use Rattle.binary.specs.Number.{byte_at, is_record}
use Rattle.binary.specs.Codec.{constant, decode_rows}
use Rattle.binary.proofs.Rows.{row_at, no_row}
use Rattle.state.specs.Limits.{seat_count, proposal_rows, login_rows}
use Rattle.state.specs.Time.{cycle, is_before_cycle}
use Rattle.state.specs.Minima.{is_in_force}
use Rattle.state.specs.Seats.{free, free_seat, seat_at, present_seats, quorum_of}
use Rattle.state.specs.Rows.{is_proposal, is_login}
use Rattle.state.specs.WellFormed.{is_trustee_count, is_well_formed_seat, are_well_formed_proposals, are_well_formed_logins, is_well_formed}
use Rattle.checkpoint.specs.declared.Head.{Head}
use Rattle.checkpoint.specs.Layout.{checkpoint_size, head_at, notices_at, tables_at, seat_size, proposal_count_at, proposals_at, login_count_at, logins_at}
use Rattle.checkpoint.specs.Format.{Form, current, earlier, Tables, counted_of, notices, head, seat, proposal, login}
use Rattle.checkpoint.specs.Code.{in_parts, is_head, are_seats, are_proposals, are_logins, is_body}
use Rattle.checkpoint.specs.Checkpoint.{decode_as, is_of, is_checkpoint, read_as, not_read, read_checkpoint}

-- The tables at their places, from where they start.
abbrev pub tables_from : List ℕ → Tables
tables_from b = record {
  seats = decode_rows seat seat_count b;
  proposal_count = byte_at proposal_count_at b;
  proposals = decode_rows proposal proposal_rows (drop proposals_at b);
  login_count = byte_at login_count_at b;
  logins = decode_rows login login_rows (drop logins_at b);
}

-- x is the bytes of b from n on, so those of x from j on are the bytes of b from n + j on
after : (b x : List ℕ) (n j : ℕ) → x ≡ drop n b → drop j x ≡ drop (n + j) b
after b x n j e = ap (drop j) e ∙ drop-drop j n b

byte-at : (b x : List ℕ) (n : ℕ) → x ≡ drop n b → get_or x 0 0 ≡ get_or b (n + 0) 0
byte-at b x n e = ap (λ (l : List ℕ). get_or l 0 0) e ∙ get_or-drop n b 0 0

pub parts_at : (h : Head) (b : List ℕ) → in_parts h b ≡ counted_of h (tables_from b)
unfolding in_parts
parts_at h b =
    let logins = after b (drop proposal_count_at b) proposal_count_at 289 refl in
    rw (
      byte-at b (drop proposal_count_at b) proposal_count_at refl,
      byte-at b _ login_count_at logins,
      after b _ login_count_at 1 logins,
      after b (drop proposal_count_at b) proposal_count_at 1 refl,
    )

-- A checkpoint of a form: the numbers, and the tables behind them.
pub decoded-as : (f : Form) (b : List ℕ) → decode_as f b ≡ in_parts ((head f.notices).decode (drop head_at b)) (drop (head_at + (head f.notices).width) b)
unfolding decode_as in_parts
decoded-as f b = ap (in_parts ((head f.notices).decode (drop head_at b))) (drop-drop (head f.notices).width head_at b)

-- and with those that stand behind them
pub head-noticed : (b : List ℕ) → (head notices).decode (drop head_at b) ≡ (head (constant (notices.decode (drop notices_at b)))).decode (drop head_at b)
head-noticed b =
    let e₁₂ = after b (drop head_at b) head_at 8 refl in
    let e₁₆ = after b _ 15 1 (after b _ 14 1 (after b _ 12 2 e₁₂)) in
    rw (after b _ 16 2 e₁₆)

-- The standing of seat i where it lies in the bytes.
module _ (b : List ℕ) (i : ℕ) where
  pub standing-at : i < seat_count → (seat_at i (decode_as current b).state.seats).standing ≡ byte_at (tables_at + seat_size * i) b
  standing-at h =
      ap {B = ℕ} (λ c. (seat_at i c.state.seats).standing) (decoded-as current b ∙ parts_at _ (drop tables_at b))
      ∙ ap {B = ℕ} (λ x. x.standing) (row_at seat seat_count b tables_at i free_seat h)
      ∙ simp (get_or-drop, add-zero, mul_comm i seat_size)

  pub no-standing : seat_count ≤ i → (seat_at i (decode_as current b).state.seats).standing ≡ free
  no-standing h =
      ap {B = ℕ} (λ c. (seat_at i c.state.seats).standing) (decoded-as current b ∙ parts_at _ (drop tables_at b))
      ∙ ap {B = ℕ} (λ x. x.standing) (no_row seat seat_count i (drop tables_at b) free_seat h)

-- A record of a form has its size.
pub framed-size : (f : Form) (b : List ℕ) → is_record f.length f.kind b ≡ true → length b ≡ f.length + 2
framed-size f b e = eqb-true _ _ (simp and-eq-true_iff at e).0.0

-- The parts in which a record is tested.
regroup : (a b c d e f p l : Bool) → ((a && b) && (c && (d && (e && (f && (p && l)))))) ≡ ((c && d) && ((e && f) && ((a && p) && (b && l))))
regroup a b false d e f p l = and-false (a && b)
regroup a b true false e f p l = and-false (a && b)
regroup a b true true false f p l = and-false (a && b)
regroup a b true true true false p l = and-false (a && b)
regroup true true true true true true p l = refl
regroup true false true true true true p l = sym (and-false p)
regroup false b true true true true p l = refl

pub in-parts : (f : Form) (b : List ℕ) → is_of f b ≡ (is_record f.length f.kind b && is_body (decode_as f b))
unfolding is_of is_well_formed is_body is_head are_seats are_proposals are_logins quorum_of
in-parts f b =
    let c = decode_as f b in
    let s = c.state in
    ap (λ (t : Bool). is_record f.length f.kind b && t)
    (regroup
    (eqb c.proposals (count is_proposal s.proposals))
    (eqb c.logins (count is_login s.logins))
    (is_before_cycle (cycle 0) s.cycle)
    (is_trustee_count s.trustees1 && (is_trustee_count s.trustees2 && is_in_force s.minima))
    (all is_well_formed_seat s.seats)
    (leb (quorum_of s) (present_seats s.seats))
    (are_well_formed_proposals s.cycle s.day s.proposals)
    (are_well_formed_logins s.logins))

-- An accepted checkpoint has the size of its form.
pub accepted-size : (f : Form) (b : List ℕ) → is_of f b ≡ true → length b ≡ f.length + 2
unfolding is_of
accepted-size f b e = framed-size f b ((and-eq-true_iff (is_record f.length f.kind b) _).0 e).0

-- One of either form is of one, and then it is read as of that form.
pub read-current : (b : List ℕ) → is_of current b ≡ true → read_checkpoint b ≡ read_as current b
unfolding read_checkpoint
read-current b e = rw e

pub read-earlier : (b : List ℕ) → is_of earlier b ≡ true → read_checkpoint b ≡ read_as earlier b
unfolding read_checkpoint
read-earlier b e = by (is_of current b) refl
  where
    by : (t : Bool) → is_of current b ≡ t → cond t (read_as current b) (cond (is_of earlier b) (read_as earlier b) not_read) ≡ read_as earlier b
    by true c = absurd (omega (arith, accepted-size current b c, accepted-size earlier b e))
    by false c = rw e

pub of-form : {P : Type 0} (b : List ℕ) → is_checkpoint b ≡ true → (is_of current b ≡ true → P) → (is_of earlier b ≡ true → P) → P
unfolding is_checkpoint
of-form {P} b e f g = by (is_of current b) refl e
  where
    by : (t : Bool) → is_of current b ≡ t → (t || is_of earlier b) ≡ true → P
    by true c h = f c
    by false c h = g h

-- The sizes tell them apart.
pub current-by-size : (b : List ℕ) → is_checkpoint b ≡ true → length b ≡ checkpoint_size → is_of current b ≡ true
current-by-size b e n = of-form b e (λ c. c) (λ c. absurd (omega (arith, accepted-size earlier b c)))

pub earlier-by-size : (b : List ℕ) → is_checkpoint b ≡ true → length b ≢ checkpoint_size → is_of earlier b ≡ true
earlier-by-size b e n = of-form b e (λ c. absurd (n (accepted-size current b c))) (λ c. c)

-- Bytes are read where they are accepted, and as a well-formed state.
pub read_ok : (b : List ℕ) → (read_checkpoint b).ok ≡ is_checkpoint b
unfolding read_checkpoint is_checkpoint
read_ok b = by (is_of current b) (is_of earlier b)
  where
    by : (c e : Bool) → (cond c (read_as current b) (cond e (read_as earlier b) not_read)).ok ≡ (c || e)
    by true e = refl
    by false true = refl
    by false false = refl

well-formed-as : (f : Form) (b : List ℕ) → is_of f b ≡ true → is_well_formed (decode_as f b).state ≡ true
unfolding is_of
well-formed-as f b e = let t = simp and-eq-true_iff at e in t.1.1

pub read-well-formed : (b : List ℕ) → is_checkpoint b ≡ true → is_well_formed (read_checkpoint b).state ≡ true
read-well-formed b e = of-form b e (λ c. rw (read-current b c) (well-formed-as current b c)) (λ c. rw (read-earlier b c) (well-formed-as earlier b c))
