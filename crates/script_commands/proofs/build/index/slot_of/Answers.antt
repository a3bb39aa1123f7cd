use Rattle.std.proofs.Common.{refl}
use Rattle.script_commands.specs.Index.{slot_of}
use Rattle.script_commands.proofs.build.index.slot_of.Goals as goal

pub returns-clause-slot : goal.returns-clause-slot
unfolding slot_of
returns-clause-slot c = refl
