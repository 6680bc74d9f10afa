use Rattle.roster.specs.Fields.{hex_text}
use Rattle.roster.proofs.written.rights_text.Goals as goal

pub returns : goal.returns
unfolding hex_text
returns c = cc
