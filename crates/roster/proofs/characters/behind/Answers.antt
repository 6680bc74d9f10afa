use mathlib.Core.Path.{sym}
use Rattle.roster.proofs.Found.{char_here}
use Rattle.roster.proofs.characters.behind.Goals as goal

pub returns-then-first-c : goal.returns-then-first-c
returns-then-first-c c = sym (char_here c.in_ok-first.ensures.cases.0 c.if-first-c.true)
