use Rattle.std.proofs.Common.{◌≡◌, ◌+◌, Bool, drop}
use Rattle.lists.specs.Code.{leading}
use Rattle.binary.specs.Codec.{decode_rows}
use Rattle.checkpoint.proofs.rows.leading.Given as goal

abbrev pub invariant-loop-i : goal.invariant-loop-i
invariant-loop-i g l =
    (p : g.row.T.Denot → Bool) → ((x : g.row.T.Denot) (r : Bool) → goal.F-post g l.passes x r → r ≡ p x)
    → let rows = decode_rows g.T.Stored.format g.row.N l.table in
    leading p g.T.Row.key l.first rows ≡ l.i + leading p g.T.Row.key l.lo (drop l.i rows)
