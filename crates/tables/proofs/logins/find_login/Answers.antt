use Rattle.std.proofs.Common.{rules, tests}
use Rattle.tables.specs.Logins.{is_named, find_login}
use Rattle.tables.proofs.logins.find_login.Goals as goal

pub returns : goal.returns
unfolding find_login
returns c = c.first_row.ensures (is_named c.args.login) (λ x r k. search (rules, tests))
