use Rattle.std.proofs.Common.{◌≡◌}
use Rattle.shares.specs.Shares.{key_size, tabulate}
use Rattle.shares.proofs.Turns.{sum_up_to}
use Rattle.shares.proofs.merging.put_sum.Given as goal

abbrev pub invariant-loop-j : goal.invariant-loop-j
invariant-loop-j l = l.row ≡ tabulate key_size (sum_up_to l.weights l.shares l.j)
