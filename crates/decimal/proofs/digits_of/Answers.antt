use Rattle.decimal.proofs.Stored.{stored_one, stored-last, stored-all}
use Rattle.decimal.proofs.digits_of.Goals as goal

pub returns-then-rest-lt10 : goal.returns-then-rest-lt10
returns-then-rest-lt10 c = (stored-last _ _ _ _ c.loop-from.invariant c.loop-from-test.true c.if-rest-lt10.true).text

pub loop-from-preserved : goal.loop-from-preserved
loop-from-preserved c = stored_one _ _ _ _ c.loop-from.invariant c.loop-from-test.true c.if-rest-lt10.false

pub returns : goal.returns
returns c = (stored-all _ _ _ _ c.loop-from.invariant c.loop-from-test.false).text
