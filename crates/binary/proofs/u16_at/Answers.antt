use native.Mathlib.Omega.{arith}
use Rattle.binary.proofs.Number.{number_at}
use Rattle.binary.proofs.u16_at.Goals as goal

pub returns : goal.returns
returns c = omega (arith, c.from_le_bytes.ensures, number_at 1 c.args.at c.args.s.now)
