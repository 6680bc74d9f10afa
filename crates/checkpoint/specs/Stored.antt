-- The laws of the rows' formats: how long a row is, and that a row is unused and blank exactly where its bytes are zero. Nothing of the paper.
use Rattle.std.specs.Prelude.{◌≡◌, ℕ, List, Bool, true, false, not, ◌&&◌, eqb, length, take, refl}
use Rattle.std.proofs.Common.{sym, ◌∙◌}
use mathlib.Core.Bool.{and-false, not-not}
use Rattle.lists.specs.Code.{is_spare}
use Rattle.binary.specs.Number.{to_bytes, is_zero_from}
use Rattle.binary.proofs.Zeros.{number-zero, ◌⊗-zero◌}
use Rattle.state.specs.declared.Seat.{Seat}
use Rattle.state.specs.declared.Proposal.{Proposal}
use Rattle.state.specs.declared.Login.{Login}
use Rattle.state.specs.Rows.{is_proposal, is_login}
use Rattle.state.specs.WellFormed.{is_blank_proposal, is_blank_login}
use Rattle.checkpoint.specs.Layout.{seat_size, proposal_size, login_size}
use Rattle.checkpoint.specs.Format.{seat, proposal, login}

-- each row is written as the bytes of its format
pub seat_long : (x : Seat) → length (seat.encode x) ≡ seat_size
unfolding to_bytes
seat_long x = refl

pub proposal_long : (x : Proposal) → length (proposal.encode x) ≡ proposal_size
unfolding to_bytes
proposal_long x = refl

pub login_long : (x : Login) → length (login.encode x) ≡ login_size
unfolding to_bytes
login_long x = refl

-- the test of a proposal has the kind first, its bytes have the cycle and the day first
kind_first : (k c d a : Bool) → (not (not k) && (c && (d && a))) ≡ ((c && d) && (k && a))
kind_first true true d a = refl
kind_first true false d a = refl
kind_first false c d a = sym (and-false (c && d))

pub proposal_zero : (b : List ℕ) → is_spare is_proposal is_blank_proposal (proposal.decode b) ≡ is_zero_from 0 (take proposal_size b)
proposal_zero b =
    let fields = (number-zero 4 ⊗-zero number-zero 4) ⊗-zero (number-zero 2 ⊗-zero number-zero 8) in
    let r = proposal.decode b in
    kind_first (eqb r.subject.kind 0) (eqb r.cycle.0 0) (eqb r.day.0 0) (eqb r.subject.arguments 0) ∙ fields.passes b

pub login_zero : (b : List ℕ) → is_spare is_login is_blank_login (login.decode b) ≡ is_zero_from 0 (take login_size b)
login_zero b =
    let fields = number-zero 4 ⊗-zero number-zero 4 ⊗-zero number-zero 2 in
    rw not-not (fields.passes b)
