use native.Mathlib.Omega.{arith}
use mathlib.Core.Path.{◌∙◌}
use lib.ListN.{length-drop}
use lib.Seq.{take_all}
use Rattle.decimal.proofs.Texts.{last-places}
use Rattle.decimal.proofs.Digits.aligned.Goals as goal

pub returns-clause-value : goal.returns-clause-value
returns-clause-value c =
    let d = c.self.inside in
    let h = c.self.invariant in
    let long = rw (← c.self.view_is) at c.requires.0 in
    rw (← c.self.view_is)
    (take_all _ _ (simp length-drop (omega (arith, c.self.told))) ∙ last-places d.from c.args.width d.bytes c.self.told h.0 h.1 long c.requires.1)
