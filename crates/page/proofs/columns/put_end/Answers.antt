use Prim.Native.Nat.{ℕ, ◌+◌}
use native.Mathlib.Omega.{arith}
use mathlib.Core.Path.{ap}
use mathlib.Core.Option.{some}
use borrow.Author.Tests.{le-ltb}
use Rattle.binary.proofs.Splices.{then-put}
use Rattle.page.proofs.ReadBack.{end_back}
use Rattle.page.proofs.columns.put_end.Goals as goal

pub returns-else-end-gt-LAST_DAY : goal.returns-else-end-gt-LAST_DAY
returns-else-end-gt-LAST_DAY c =
    let no = c.if-end-gt-LAST_DAY.false in
    let a = c.args in
    let size = end_back.long (some a.end.0) (omega arith) in
    rw (le-ltb _ _ no)
    (then-put _ _ _ _ _ a.at _ c.put_u8.ensures c.put_day.ensures (ap (λ (n : ℕ). a.at + n) size) (omega arith))
