use Rattle.script_commands.proofs.Slots.{HasPassed}
use Rattle.store_spec.proofs.Common.{numbers_of}
use Rattle.script_commands.proofs.build.index.Index.look.Given as goal

-- each slot that was passed has another number
abbrev pub invariant-loop-at : goal.invariant-loop-at
invariant-loop-at l = HasPassed l.self.slots.items (numbers_of l.ballots.ballots) l.number l.at
