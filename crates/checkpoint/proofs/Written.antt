-- A checkpoint written: the sizes of its rows and parts, and the parts joined.
use Prim.Native.Nat.{ℕ}
use native.Mathlib.Omega.{arith}
use mathlib.Core.Path.{◌≡◌, refl}
use mathlib.Core.List.{◌++◌, append_assoc}
use lib.ListN.{length, length-append}
use Rattle.binary.specs.Number.{to_bytes}
use Rattle.binary.proofs.Rows.{rows-size}
use Rattle.state.specs.declared.Day.{Day}
use Rattle.state.specs.declared.Cycle.{Cycle}
use Rattle.state.specs.declared.Minima.{Minima}
use Rattle.state.specs.declared.State.{State}
use Rattle.state.specs.Limits.{seat_count, proposal_rows, login_rows}
use Rattle.checkpoint.specs.Layout.{checkpoint_size}
use Rattle.checkpoint.specs.Format.{seat, proposal, login}
use Rattle.checkpoint.specs.Code.{time_bytes, parameters_at, parameter_bytes, table_bytes}
use Rattle.checkpoint.specs.Checkpoint.{checkpoint_bytes}
use Rattle.checkpoint.specs.Stored.{seat_long, proposal_long, login_long}

pub time-size : (c : Cycle) (d : Day) → length (time_bytes c d) ≡ parameters_at
unfolding time_bytes to_bytes
time-size c d = refl

pub parameter-size : (trustees1 trustees2 : ℕ) (x : Minima) → length (parameter_bytes trustees1 trustees2 x) ≡ 8
unfolding parameter_bytes to_bytes
parameter-size trustees1 trustees2 x = refl

pub parts-joined : (s : State)
    → time_bytes s.cycle s.day ++ parameter_bytes s.trustees1 s.trustees2 s.minima ++ table_bytes s.seats s.proposals s.logins
    ≡ checkpoint_bytes s
unfolding checkpoint_bytes time_bytes parameter_bytes table_bytes
parts-joined s = simp append_assoc

-- The whole, for a state with its numbers of rows.
pub checkpoint-size : (s : State) → length s.seats ≡ seat_count → length s.proposals ≡ proposal_rows → length s.logins ≡ login_rows
    → length (checkpoint_bytes s) ≡ checkpoint_size
unfolding table_bytes
checkpoint-size s p q r =
    let seats = rows-size seat seat_long seat_count s.seats p in
    let proposals = rows-size proposal proposal_long proposal_rows s.proposals q in
    let logins = rows-size login login_long login_rows s.logins r in
    rw (← parts-joined s) (simp (length-append, time-size, parameter-size) (omega arith))
