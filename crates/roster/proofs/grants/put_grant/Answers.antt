use native.Mathlib.Omega.{arith}
use mathlib.Core.Path.{refl}
use Rattle.binary.specs.Number.{to_bytes}
use Rattle.binary.proofs.Splices.{then-put}
use Rattle.records.specs.Announcement.{announcement_bytes}
use Rattle.roster.proofs.grants.put_grant.Goals as goal

pub returns : goal.returns
unfolding to_bytes announcement_bytes
returns c =
    then-put _ _ _ _ _ _ _ c.put_arguments.ensures c.put_head.ensures refl (omega (arith, c.requires))
