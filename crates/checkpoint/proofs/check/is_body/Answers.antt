use mathlib.Core.Bool.{and_assoc}
use Rattle.binary.proofs.Slices.{part-from}
use Rattle.checkpoint.specs.Layout.{proposals_at, logins_at}
use Rattle.checkpoint.specs.Code.{is_body}
use Rattle.checkpoint.proofs.Fields.{parts_at}
use Rattle.checkpoint.proofs.check.is_body.Goals as goal

pub returns : goal.returns
unfolding is_body
returns c =
    let a = c.args in
    let b = a.b.now in
    rw (
      parts_at a.head b,
      c.is_well_formed.ensures,
      c.are_seats.ensures,
      c.are_proposals.ensures,
      c.are_logins.ensures,
      part-from proposals_at b,
      part-from logins_at b,
    ) (simp and_assoc)
