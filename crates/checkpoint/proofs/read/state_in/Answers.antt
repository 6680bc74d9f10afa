use native.Mathlib.Omega.{arith}
use mathlib.Core.Path.{◌≡◌}
use Rattle.binary.proofs.Slices.{part-from}
use mathlib.Core.Bool.{true}
use Rattle.checkpoint.specs.Layout.{earlier_tables_at}
use Rattle.checkpoint.specs.Format.{earlier}
use Rattle.checkpoint.specs.Checkpoint.{is_of}
use Rattle.checkpoint.proofs.Fields.{accepted-size, current-by-size, earlier-by-size, read-current, read-earlier, decoded-as}
use borrow.Author.Rules.{rules}
use Rattle.checkpoint.proofs.read.state_in.Goals.{Else-b-eq-CHECKPOINT_SIZE}
use Rattle.checkpoint.proofs.read.state_in.Goals as goal

-- Bytes of another size are of the earlier kind.
is-earlier : (c : Else-b-eq-CHECKPOINT_SIZE) → is_of earlier c.args.b.now ≡ true
is-earlier c = earlier-by-size c.args.b.now c.requires c.if-b-eq-CHECKPOINT_SIZE.false

pub returns-then-b-eq-CHECKPOINT_SIZE : goal.returns-then-b-eq-CHECKPOINT_SIZE
returns-then-b-eq-CHECKPOINT_SIZE c =
    let b = c.args.b.now in
    rw (read-current b (current-by-size b c.requires c.if-b-eq-CHECKPOINT_SIZE.true)) c.current_state_in.ensures

pub head_in-requires : goal.head_in-requires
head_in-requires c = omega (arith, accepted-size earlier _ (is-earlier (goal.at.head_in-requires c).Else-b-eq-CHECKPOINT_SIZE))

pub slice_bounds-state_of-count : goal.slice_bounds-state_of-count
slice_bounds-state_of-count c = omega (arith, accepted-size earlier _ (is-earlier (goal.at.slice_bounds-state_of-count c).Else-b-eq-CHECKPOINT_SIZE))

pub slice_bounds-state_of-start : goal.slice_bounds-state_of-start
slice_bounds-state_of-start c = omega (arith, accepted-size earlier _ (is-earlier (goal.at.slice_bounds-state_of-start c).Else-b-eq-CHECKPOINT_SIZE))

pub state_of-requires : goal.state_of-requires
state_of-requires c = search (rules, accepted-size earlier _ (is-earlier (goal.at.state_of-requires c).Else-b-eq-CHECKPOINT_SIZE))

pub returns-else-b-eq-CHECKPOINT_SIZE : goal.returns-else-b-eq-CHECKPOINT_SIZE
returns-else-b-eq-CHECKPOINT_SIZE c =
    let b = c.args.b.now in
    rw (
      read-earlier b (is-earlier (goal.at.returns-else-b-eq-CHECKPOINT_SIZE c).Else-b-eq-CHECKPOINT_SIZE),
      decoded-as earlier b,
      ← c.head_in.ensures,
      ← part-from earlier_tables_at b,
    ) c.state_of.ensures
