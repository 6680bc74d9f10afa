-- The checkpoint of a state and the state of a checkpoint, and the two claims.
use Prim.Native.Nat.{ℕ, ◌+◌}
use native.Mathlib.Omega.{arith}
use mathlib.Core.Path.{◌≡◌, refl, sym, ap, subst, ◌∙◌}
use mathlib.Core.Bool.{true, and-eq-true_iff}
use mathlib.Core.List.{List}
use lib.ListN.{length, drop}
use borrow.Author.Tests.{eqb-true, eq-eqb}
use Rattle.binary.specs.Number.{Bytes, from_bytes}
use Rattle.binary.specs.Codec.{Codec}
use Rattle.binary.proofs.Codec.{Laws, byte_laws, number-laws, onto-laws, rows-laws, read_back, written_back, ◌⊗-laws◌}
use Rattle.state.specs.declared.Notices.{Notices}
use Rattle.state.specs.declared.State.{State}
use Rattle.state.specs.WellFormed.{is_well_formed}
use Rattle.state.specs.Limits.{seat_count, proposal_rows, login_rows}
use Rattle.checkpoint.specs.Layout.{kind_checkpoint, checkpoint_length, checkpoint_size}
use Rattle.checkpoint.specs.Format.{Form, current, Counted, notices, minima, head, seat, proposal, login, tables, body, counted, checkpoint}
use Rattle.checkpoint.specs.Checkpoint.{Fits, checkpoint_bytes, decode_as, is_of}
use Rattle.checkpoint.specs.Claims.{LaidOut, ReadState, StateReadBack, CheckpointWrittenBack}
use Rattle.checkpoint.proofs.Fields.{read-current}

-- The laws of the formats, in their order.
seat-laws : Laws seat
seat-laws = onto-laws _ _ (λ _. refl) (λ _. refl) (byte_laws ⊗-laws number-laws 4)

proposal-laws : Laws proposal
proposal-laws = onto-laws _ _ (λ _. refl) (λ _. refl) ((number-laws 4 ⊗-laws number-laws 4) ⊗-laws (number-laws 2 ⊗-laws number-laws 8))

login-laws : Laws login
login-laws = onto-laws _ _ (λ _. refl) (λ _. refl) (number-laws 4 ⊗-laws number-laws 4 ⊗-laws number-laws 2)

notices-laws : Laws notices
notices-laws = onto-laws _ _ (λ _. refl) (λ _. refl) (byte_laws ⊗-laws byte_laws)

minima-laws : {n : Codec Notices} → Laws n → Laws (minima n)
minima-laws N = onto-laws _ _ (λ _. refl) (λ _. refl) (byte_laws ⊗-laws byte_laws ⊗-laws number-laws 2 ⊗-laws N)

head-laws : {n : Codec Notices} → Laws n → Laws (head n)
head-laws N =
    onto-laws _ _ (λ _. refl) (λ _. refl)
    ((number-laws 4 ⊗-laws number-laws 4) ⊗-laws (byte_laws ⊗-laws byte_laws) ⊗-laws minima-laws N)

tables-laws : Laws tables
tables-laws =
    onto-laws _ _ (λ _. refl) (λ _. refl)
    (rows-laws seat-laws seat_count
    ⊗-laws (byte_laws ⊗-laws rows-laws proposal-laws proposal_rows)
    ⊗-laws (byte_laws ⊗-laws rows-laws login-laws login_rows))

body-laws : {n : Codec Notices} → Laws n → Laws (body n)
body-laws N = onto-laws _ _ (λ _. refl) (λ _. refl) (head-laws N ⊗-laws tables-laws)

checkpoint-laws : {n : Codec Notices} → Laws n → Laws (checkpoint n)
checkpoint-laws N = (number-laws 2 ⊗-laws number-laws 2) ⊗-laws body-laws N

pub laid_out : LaidOut
laid_out = record {
  whole = (refl, refl);
  length-field = (refl, refl);
  rows = (refl, refl, refl);
  before-tables = (refl, refl);
  tables = (refl, refl);
}

-- What is written of a state that fits: its length, and what it is read as.
module _ (s : State) (h : Fits s) where
  abbrev framing : ℕ × ℕ
  framing = (checkpoint_length, kind_checkpoint)

  record-fits : (checkpoint notices).Fits (framing, counted s)
  record-fits = ((omega arith, omega arith), h)

  pub checkpoint-length : length (checkpoint_bytes s) ≡ checkpoint_size
  unfolding checkpoint_bytes
  checkpoint-length = (checkpoint-laws notices-laws).reads.long (framing, counted s) record-fits

  record-read-back : (checkpoint notices).decode (checkpoint_bytes s) ≡ (framing, counted s)
  unfolding checkpoint_bytes
  record-read-back = read_back (checkpoint-laws notices-laws).reads (framing, counted s) record-fits

  pub checkpoint-decoded : decode_as current (checkpoint_bytes s) ≡ counted s
  unfolding decode_as
  checkpoint-decoded = ap {B = Counted} (λ p. p.1) record-read-back

  pub checkpoint-accepted : is_well_formed s ≡ true → is_of current (checkpoint_bytes s) ≡ true
  unfolding is_of
  checkpoint-accepted w =
      let l = ap {B = ℕ} (λ p. p.0.0) record-read-back in
      let k = ap {B = ℕ} (λ p. p.0.1) record-read-back in
      simp (and-eq-true_iff, checkpoint-decoded)
      (((eq-eqb _ _ checkpoint-length, eq-eqb _ _ l), eq-eqb _ _ k), ((eq-eqb (counted s).proposals _ refl, eq-eqb (counted s).logins _ refl), w))

pub state-read-back : StateReadBack
state-read-back s h w = read-current (checkpoint_bytes s) (checkpoint-accepted s h w) ∙ rw (checkpoint-decoded s h)

-- What is read from bytes that are accepted: t is what the tests tell, c the state with its counts.
module _ (f : Form) (N : Laws f.notices) (sized : (checkpoint f.notices).width ≡ f.length + 2) where
  pub record ReadAs (b : List ℕ) (s : State) : Type 0 where
    pub fits : (body f.notices).Fits (counted s)
    pub well-formed : is_well_formed s ≡ true
    pub written_back : (checkpoint f.notices).encode ((f.length, f.kind), counted s) ≡ b

  pub read_as : (b : List ℕ) → Bytes b → is_of f b ≡ true → ReadAs b (decode_as f b).state
  unfolding is_of decode_as
  read_as b h e =
      let t = simp and-eq-true_iff at e in
      let n : length b ≡ (checkpoint f.notices).width = eqb-true _ _ t.0.0.0 ∙ sym sized in
      let l = eqb-true (from_bytes 2 b) f.length t.0.0.1 in
      let k = eqb-true (from_bytes 2 (drop 2 b)) f.kind t.0.1 in
      let c = decode_as f b in
      let p = eqb-true _ _ t.1.0.0 in
      let q = eqb-true _ _ t.1.0.1 in
      let d : (checkpoint f.notices).decode b ≡ ((f.length, f.kind), counted c.state) =
      λ i. ((l i, k i), record { proposals = p i; logins = q i; state = c.state }) in
      record {
        fits = (subst (checkpoint f.notices).Fits d ((checkpoint-laws N).fits b (omega arith) h)).1;
        well-formed = t.1.1;
        written_back = ap (checkpoint f.notices).encode (sym d) ∙ written_back (checkpoint-laws N) b n h;
      }

pub decoded-state : (b : List ℕ) → Bytes b → is_of current b ≡ true → ReadState b (decode_as current b).state
unfolding checkpoint_bytes
decoded-state b h e =
    let r = read_as current notices-laws refl b h e in
    record { fits = r.fits; well-formed = r.well-formed; written_back = r.written_back }

pub checkpoint-written-back : CheckpointWrittenBack
checkpoint-written-back b h e = rw (read-current b e) (decoded-state b h e)
