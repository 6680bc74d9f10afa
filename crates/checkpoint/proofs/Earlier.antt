-- What a checkpoint of kind 16 is read as, and that either kind is read as a well-formed state.
use Prim.Native.Nat.{ℕ}
use native.Mathlib.Omega.{arith}
use mathlib.Core.Path.{◌≡◌, refl, sym, ap, ◌∙◌}
use mathlib.Core.Bool.{true}
use mathlib.Core.List.{List}
use Rattle.binary.specs.Number.{Bytes, to_bytes}
use Rattle.binary.proofs.Codec.{constant-laws}
use Rattle.state.specs.declared.State.{State}
use Rattle.state.specs.WellFormed.{is_well_formed}
use Rattle.checkpoint.specs.Format.{earlier, earlier_notices, counted, checkpoint}
use Rattle.checkpoint.specs.Checkpoint.{Fits, checkpoint_bytes, decode_as, is_of, is_checkpoint, read_checkpoint}
use Rattle.checkpoint.specs.Claims.{renewed, ReadEarlier, EarlierReadWithSevenAndTwo}
use Rattle.checkpoint.proofs.Fields.{read-earlier, of-form}
use Rattle.checkpoint.proofs.RoundTrips.{ReadAs, read_as, state-read-back, checkpoint-written-back}

-- the bytes of kind 16 of a state
abbrev earlier_bytes : State → List ℕ
earlier_bytes s = (checkpoint earlier.notices).encode ((earlier.length, earlier.kind), counted s)

-- Those of kind 26 are the same with 7 and 2 after S, where these are the notices.
renews : (s : State) → s.minima.notices ≡ earlier_notices → checkpoint_bytes s ≡ renewed (earlier_bytes s)
unfolding checkpoint_bytes to_bytes
renews s e = rw e

module _ (b : List ℕ) (h : Bytes b) (e : is_of earlier b ≡ true) where
  abbrev s : State
  s = (decode_as earlier b).state

  was : ReadAs earlier (constant-laws earlier_notices) refl b s
  was = read_as earlier (constant-laws earlier_notices) refl b h e

  noticed : s.minima.notices ≡ earlier_notices
  unfolding decode_as
  noticed = refl

  fits : Fits s
  fits =
      let f = was.fits in
      let m = f.0.1.1 in
      ((f.0.0, (f.0.1.0, (m.0, (m.1.0, (m.1.1.0, rw noticed (omega arith, omega arith)))))), f.1)

  written : checkpoint_bytes s ≡ renewed b
  written = renews s noticed ∙ ap renewed was.written_back

  read : ReadEarlier b s
  read = record {
    fits = fits;
    well-formed = was.well-formed;
    notices = noticed;
    one = was.written_back;
    written = written;
    read_again = ap read_checkpoint (sym written) ∙ state-read-back s fits was.well-formed ∙ sym (read-earlier b e);
  }

pub earlier-read-with-seven-and-two : EarlierReadWithSevenAndTwo
earlier-read-with-seven-and-two b h e = rw (read-earlier b e) (read b h e)

-- The state of an accepted checkpoint fits and is well formed.
pub accepted-state : (b : List ℕ) → Bytes b → is_checkpoint b ≡ true → Fits (read_checkpoint b).state × (is_well_formed (read_checkpoint b).state ≡ true)
accepted-state b h e =
    of-form b e (λ c. let r = checkpoint-written-back b h c in (r.fits, r.well-formed))
    (λ c. let r = earlier-read-with-seven-and-two b h c in (r.fits, r.well-formed))
