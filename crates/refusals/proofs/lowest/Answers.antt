use Rattle.lists.proofs.Cases.{cases}
use Rattle.refusals.specs.Refusals.{lowest}
use Rattle.refusals.proofs.lowest.Goals as goal

pub returns-then-a-eq0 : goal.returns-then-a-eq0
unfolding lowest
returns-then-a-eq0 c = search cases

pub returns-then-b-eq0 : goal.returns-then-b-eq0
unfolding lowest
returns-then-b-eq0 c = search cases

pub returns-then-a-b : goal.returns-then-a-b
unfolding lowest
returns-then-a-b c = search cases

pub returns-else-a-b : goal.returns-else-a-b
unfolding lowest
returns-else-a-b c = search cases
