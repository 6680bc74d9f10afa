use Prim.Native.Nat.{◌-◌}
use mathlib.Core.Path.{◌≡◌, ◌∙◌}
use native.Mathlib.Nat.{zero-add}
use native.Mathlib.Omega.{arith}
use lib.ListN.{length, take, drop, length-drop}
use lib.Seq.{length-take-le}
use Rattle.binary.specs.Number.{overwrite}
use Rattle.requests.proofs.windows.shift.Goals as goal

pub returns : goal.returns
unfolding overwrite
returns c =
    let a = c.args in
    let b = a.buffer.now in
    let size : length (take (a.to - a.from) (drop a.from b)) ≡ a.to - a.from =
    length-take-le (a.to - a.from) (drop a.from b) (rw length-drop (omega (arith, c.requires))) in
    c.copy_within.ensures.after ∙ rw (size, zero-add)
