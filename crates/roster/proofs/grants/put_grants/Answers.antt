use Rattle.roster.proofs.GrantBytes.{written_all}
use Rattle.roster.proofs.grants.put_grants.Goals as goal

pub returns : goal.returns
returns c = written_all _ _ _ _ _ _ _ c.loop-i.invariant c.loop-i-test.false
