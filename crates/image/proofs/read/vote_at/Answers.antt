use Prim.Native.Nat.{◌+◌, ◌-◌, ◌≤◌}
use mathlib.Core.Path.{◌≡◌, sym, ◌∙◌}
use native.Mathlib.Omega.{arith}
use lib.ListN.{length, drop, length-drop}
use Rattle.records.specs.Layout.{announcement_size}
use Rattle.image.proofs.OwnParts.{bytes-are}
use Rattle.image.proofs.read.vote_at.Goals as goal

pub returns : goal.returns
returns c =
    let b = c.args.b.now in
    let at = c.args.at in
    let size : at + announcement_size - at ≡ announcement_size = omega arith in
    let room : announcement_size ≤ length (drop at b) = rw length-drop (omega (arith, c.requires)) in
    rw size at c.copy_from_slice.ensures.after ∙ sym (bytes-are announcement_size (drop at b) room)
