use mathlib.Core.Path.{◌≡◌, refl, sym, ap}
use mathlib.Core.List.{List}
use Prim.Native.Nat.{ℕ}
use native.Mathlib.Omega.{arith}
use lib.ListN.{length}
use lib.Seq.{set_out}
use Rattle.records.specs.Layout.{door_count}
use Rattle.verdicts.specs.declared.AttemptCounts.{AttemptCounts}
use borrow.Author.Rules.{rules}
use Rattle.verdicts.proofs.attempts.with_misses.Goals.{Start}
use Rattle.verdicts.proofs.attempts.with_misses.Goals as goal

doors : (c : Start) → length c.args.counts.misses ≡ door_count
doors c = search rules

pub returns-then-at-lt-DOORS : goal.returns-then-at-lt-DOORS
returns-then-at-lt-DOORS c = refl

pub returns-else-at-lt-DOORS : goal.returns-else-at-lt-DOORS
returns-else-at-lt-DOORS c =
    let a = c.args in
    let counts : List ℕ → AttemptCounts = λ l. record { misses = l } in
    sym (ap counts (set_out a.counts.misses a.door a.misses (omega (arith, c.if-at-lt-DOORS.false, doors (goal.at.returns-else-at-lt-DOORS c).Start))))
