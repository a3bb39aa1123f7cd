use Rattle.script_lines.proofs.Meanings.{one_meaning}
use Rattle.script_lines.proofs.laws.one_meaning.Goals as goal

pub returns : goal.returns
returns c = one_meaning
