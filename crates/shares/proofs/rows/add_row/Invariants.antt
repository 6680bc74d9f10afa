use Rattle.std.proofs.Common.{get_or}
use Rattle.gf256.specs.Field.{add, mul}
use Rattle.shares.proofs.Tabulated.{Tabulated}
use Rattle.shares.proofs.rows.add_row.Given as goal

abbrev pub invariant-loop-b : goal.invariant-loop-b
invariant-loop-b l = Tabulated l.initial.row l.b (λ b. add (get_or l.initial.row b 0) (mul l.fn.weight (get_or l.share b 0))) l.row
