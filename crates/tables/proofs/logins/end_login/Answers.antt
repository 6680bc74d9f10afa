use Rattle.std.proofs.Common.{rules, tests}
use Rattle.tables.specs.Logins.{is_named, end_login}
use Rattle.tables.proofs.logins.end_login.Goals as goal

pub returns : goal.returns
unfolding end_login
returns c = c.without.ensures (is_named c.args.login) (λ x r k. search (rules, tests))
