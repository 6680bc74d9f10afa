use Rattle.binary.proofs.Splices.{splice-stores}
use Rattle.binary.proofs.put_u8.Goals as goal

pub returns : goal.returns
returns c = splice-stores _ _ _ _ c.requires
