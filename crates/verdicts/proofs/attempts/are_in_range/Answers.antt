use borrow.Author.Rules.{rules}
use mathlib.Core.Path.{refl}
use Rattle.std.proofs.lemmas.List.Recursion.{and_is}
use Rattle.lists.specs.Fold.{all}
use Rattle.verdicts.specs.Attempts.{are_in_range}
use Rattle.verdicts.proofs.Misses.{within}
use Rattle.verdicts.proofs.attempts.are_in_range.Goals as goal

pub returns : goal.returns
unfolding are_in_range all
returns c = and_is (all within) within refl (λ _ _. refl) c.args.counts.misses 0 c.all.result (search rules) (search rules)
