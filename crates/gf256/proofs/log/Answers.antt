use native.Mathlib.Omega.{arith}
use Rattle.gf256.proofs.log.Goals as goal

pub returns : goal.returns
returns c = grind (arith, c.logarithms.ensures.below, c.logarithms.ensures.each)
