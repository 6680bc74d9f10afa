use Rattle.gf256.proofs.Laws.{are-powers}
use Rattle.gf256.proofs.power_table.powers.Goals as goal

pub returns : goal.returns
returns c = are-powers
