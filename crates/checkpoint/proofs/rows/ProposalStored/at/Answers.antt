use lib.Seq.{drop-drop}
use Rattle.checkpoint.proofs.rows.ProposalStored.at.Goals as goal

pub returns : goal.returns
returns c =
    simp (
      drop-drop,
      c.u32_at.ensures,
      c.u32_at-2.ensures,
      c.u16_at.ensures,
      c.u64_at.ensures,
    )
