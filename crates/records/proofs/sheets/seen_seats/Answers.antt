use native.Mathlib.Omega.{arith}
use mathlib.Core.Path.{refl, ◌∙◌}
use Prim.Native.Nat.{◌+◌, ◌*◌}
use Rattle.binary.specs.Number.{byte_at}
use Rattle.records.proofs.Bits.{flag-number}
use Rattle.records.proofs.SheetRows.{sheet-of, seen_start, seen-turn, seen_end}
use Rattle.records.proofs.sheets.seen_seats.Goals as goal

pub bounds-b-6 : goal.bounds-b-6
bounds-b-6 c = omega (arith, (sheet-of c.args.b.now c.requires).size)

pub loop-i-init : goal.loop-i-init
loop-i-init c = seen_start c.args.b.now c.args.seats c.requires

pub loop-i-preserved : goal.loop-i-preserved
loop-i-preserved c =
    let b = c.args.b.now in
    let i = c.loop-i.i in
    seen-turn b c.args.seats i (byte_at (7 + 5 * i) b) c.u32_at.result c.from.result c.loop-i.seen c.loop-i.invariant c.loop-i-test.true refl
    c.u32_at.ensures (rw (← c.is_present.ensures) (c.from.ensures ∙ flag-number _))

pub returns : goal.returns
returns c = seen_end c.args.b.now c.args.seats c.loop-i.i c.loop-i.seen c.loop-i.invariant c.loop-i-test.false
