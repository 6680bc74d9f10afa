use Prim.Native.Nat.{ℕ, ◌+◌}
use native.Mathlib.Omega.{arith}
use mathlib.Core.Path.{sym, ap, ◌∙◌}
use Rattle.binary.proofs.Copies.{copied-one, copied_all}
use Rattle.binary.proofs.Splices.{then-put}
use Rattle.state.specs.Limits.{right_count}
use Rattle.page.specs.Line.{places}
use Rattle.page.proofs.Places.{length-places, place-of-right}
use Rattle.page.proofs.columns.put_rights.Goals as goal

pub loop-i-preserved : goal.loop-i-preserved
loop-i-preserved c =
    let a = c.args in
    let size = length-places right_count 0 a.rights in
    let e = c.place_of.ensures ∙ sym (place-of-right c.loop-i.i a.rights (omega arith)) in
    rw (e, c.from.ensures) (copied-one a.out.now a.at (places right_count 0 a.rights) c.loop-i.i c.loop-i.out c.loop-i.invariant (omega arith) (omega arith))

pub returns : goal.returns
returns c =
    let a = c.args in
    let size = length-places right_count 0 a.rights in
    then-put _ _ _ _ _ a.at _ (rw c.from-2.ensures at c.put_u8.ensures)
    (copied_all a.out.now a.at (places right_count 0 a.rights) c.loop-i.i _ c.loop-i.invariant (omega arith))
    (ap (λ (n : ℕ). a.at + n) size) (omega arith)
