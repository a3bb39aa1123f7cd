use Rattle.std.proofs.Common.{arith}
use Rattle.script_lines.proofs.Meanings.{short}
use Rattle.script_lines.proofs.laws.lines_are_short.Goals as goal

pub returns : goal.returns
returns c e bytes line says = omega (arith, short e bytes line says)
