use Rattle.std.proofs.Common.{◌≡◌, drop}
use Rattle.shares.specs.Shares.{are_numbers}
use Rattle.shares.proofs.merging.are_numbers.Given as goal

abbrev pub invariant-loop-i : goal.invariant-loop-i
invariant-loop-i l = are_numbers l.n l.numbers ≡ are_numbers l.n (drop l.i l.numbers)
