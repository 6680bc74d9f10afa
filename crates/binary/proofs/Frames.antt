-- How long a record is that passes the test of its frame.
use mathlib.Core.Path.{◌≡◌}
use mathlib.Core.Bool.{true, and-eq-true_iff}
use mathlib.Core.List.{List}
use Prim.Native.Nat.{ℕ, ◌+◌}
use native.Mathlib.Omega.{arith}
use lib.ListN.{length}
use borrow.Author.Tests.{eqb-true}
use Rattle.binary.specs.Number.{is_framed}

pub framed-length : (n : ℕ) (b : List ℕ) → is_framed n b ≡ true → length b ≡ n + 2
framed-length n b e = let t = simp and-eq-true_iff at e in omega (arith, eqb-true)
