use Prim.Native.Nat.{ℕ, ◌+◌}
use native.Mathlib.Nat.{zero-add}
use native.Mathlib.Omega.{arith}
use mathlib.Core.Path.{refl, subst}
use lib.ListN.{get_or, set}
use lib.Seq.{paste-zero}
use Rattle.binary.proofs.Copies.{Copied, copied-one, copied_all}
use Rattle.image.proofs.write.put_state.Goals as goal

pub loop-i-init : goal.loop-i-init
loop-i-init c = record { within = omega arith; same_length = refl; copied = paste-zero c.args.out.now 0 c.args.state.now }

pub loop-i-preserved : goal.loop-i-preserved
loop-i-preserved c =
    let i = c.loop-i.i in
    let state = c.args.state.now in
    subst (λ (m : ℕ). Copied c.args.out.now 0 state (i + 1) (set c.loop-i.out m (get_or state i 0))) (zero-add i)
    (copied-one c.args.out.now 0 state i c.loop-i.out c.loop-i.invariant (omega (arith, c.requires)) (omega arith))

pub returns : goal.returns
returns c = copied_all c.args.out.now 0 c.args.state.now c.loop-i.i _ c.loop-i.invariant (omega arith)
