use Rattle.gf256.proofs.Laws.{are-logarithms}
use Rattle.gf256.proofs.logarithm_table.logarithms.Goals as goal

pub returns : goal.returns
returns c = are-logarithms
