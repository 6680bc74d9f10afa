-- A refused call of a roster leaves its slice as it was.
use mathlib.Core.Path.{◌≡◌, ap}
use mathlib.Core.Logic.{◌≢◌}
use mathlib.Core.List.{List}
use Prim.Native.Nat.{ℕ, ◌%◌}
use native.Mathlib.Omega.{arith}
use Rattle.lists.proofs.Tests.{clash}
use Rattle.state.specs.declared.Cycle.{Cycle}
use Rattle.state.specs.declared.Day.{Day}
use Rattle.std.specs.Prelude.{Ok, Err}
use Rattle.refusals.specs.declared.Refusal.{Refusal}
use Rattle.roster.specs.Calls.{Outcome, refused}
use Rattle.roster.specs.Claims.{ImportAnswering, ExportAnswering, no-grant}
use Rattle.roster.specs.Claims as C
use Rattle.node_c.specs.Calls.{value_returned}

-- the call is refused, or it gives something
pub data Answered (out : List ℕ) (x : Outcome) : Type 0 where
  refuses : (r : Refusal) → x ≡ refused r out → Answered out x
  gives : (n : ℕ) → x.answer ≡ Ok n → Answered out x

pub import-answered : (text : List ℕ) (c : Cycle) (d : Day) (out : List ℕ) (x : Outcome) → ImportAnswering text c d out x → Answered out x
import-answered text c d out x (C.malformed e q) = refuses _ q
import-answered text c d out x (C.out-of-cycles rs e l q) = refuses _ q
import-answered text c d out x (C.too_short rs e l k q) = refuses _ q
import-answered text c d out x (C.given rs e l k q) = gives _ (ap (λ (y : Outcome). y.answer) q)

pub export-answered : (b out : List ℕ) (x : Outcome) → ExportAnswering b out x → Answered out x
export-answered b out x (no-grant h q) = refuses _ q
export-answered b out x (C.too_short a r e g h l q) = refuses _ q
export-answered b out x (C.given a r e g h l q) = gives _ (ap (λ (y : Outcome). y.answer) q)

pub refusal-kept : (out : List ℕ) (x : Outcome) → Answered out x → (r : Refusal) → x.answer ≡ Err r → x.slice ≡ out
refusal-kept out x (refuses j q) k e = ap (λ (y : Outcome). y.slice) q
refusal-kept out x (gives n q) k e = clash (cc)

pub return_kept : (out : List ℕ) (x : Outcome) → Answered out x → value_returned x.answer % 256 ≢ 0 → x.slice ≡ out
return_kept out x (refuses j q) h = ap (λ (y : Outcome). y.slice) q
return_kept out x (gives n q) h = absurd (h (rw q (omega arith)))
