use Prim.Native.Nat.{ℕ, ◌+◌}
use native.Mathlib.Omega.{arith}
use mathlib.Core.Path.{ap}
use Rattle.binary.proofs.Splices.{then-put}
use Rattle.page.proofs.ReadBack.{login-back}
use Rattle.page.proofs.columns.put_login.Goals as goal

pub returns : goal.returns
returns c =
    let a = c.args in
    let size = login-back.long a.login (omega arith) in
    then-put _ _ _ _ _ a.at _ c.put_u8.ensures (rw c.from.ensures at c.put_aligned.ensures) (ap (λ (n : ℕ). a.at + n) size) (omega arith)
