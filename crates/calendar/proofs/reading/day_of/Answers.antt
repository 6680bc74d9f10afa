use native.Mathlib.Omega.{arith}
use Rattle.calendar.proofs.Formulas.{counted}
use Rattle.calendar.proofs.reading.day_of.Goals as goal

pub overflow_add-result-3 : goal.overflow_add-result-3
overflow_add-result-3 c = let t = counted _ c.requires in omega arith

pub overflow_add-result-4 : goal.overflow_add-result-4
overflow_add-result-4 c = let t = counted _ c.requires in omega arith

pub returns : goal.returns
returns c = let t = counted _ c.requires in omega arith
