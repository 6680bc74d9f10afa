use native.Mathlib.Omega.{arith}
use Rattle.binary.proofs.Number.{number_at}
use Rattle.binary.proofs.u32_at.Goals as goal

pub returns : goal.returns
returns c = omega (arith, c.from_le_bytes.ensures, number_at 3 c.args.at c.args.s.now)
