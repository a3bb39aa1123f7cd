-- What a line of the program says, as the definitions see it.
use Rattle.ballot_record.specs.Record.{ballot}
use Rattle.std.specs.Prelude.{ℕ, List}
use Rattle.ballot_record.specs.declared.record.Record.{Record}
use Rattle.script_lines.specs.Words.{work}
use Rattle.script_lines.specs.declared.line.Command.{Command}
use Rattle.script_lines.specs.declared.line.Command.TheVariants as commands
use Rattle.script_lines.specs.declared.line.Entry.{Entry}
use Rattle.script_lines.specs.declared.line.Entry.TheVariants as entries
use Rattle.script_lines.specs.declared.line.Line.{Line}
use Rattle.script_lines.specs.declared.line.Line.TheVariants as lines
use Rattle.script_lines.specs.declared.line.Said.{Said}
use Rattle.script_lines.specs.declared.line.Said.TheVariants as said
use Rattle.store_spec.specs.Election.{Election}
use Rattle.store_spec.specs.ScriptLine.{IsMalformed, Says, ScriptLine}
use Rattle.store_spec.specs.ScriptLine.ScriptLine.{Open, Cast, CastInvalid, Withdraw, Find, Close, Checkpoint, Tally, Export}
use Rattle.store_spec.specs.ScriptLine.Work.{Casting, Withdrawing, Finding}

abbrev pub script_line : Line → ScriptLine
script_line (lines.OpenCast tabs) = Open Casting tabs
script_line (lines.OpenWithdraw tabs) = Open Withdrawing tabs
script_line (lines.OpenFind tabs) = Open Finding tabs
script_line (lines.Cast tab r) = Cast tab (ballot r)
script_line (lines.CastInvalid tab) = CastInvalid tab
script_line (lines.Withdraw tab number) = Withdraw tab number
script_line (lines.Find tab number) = Find tab number
script_line lines.Close = Close
script_line lines.Checkpoint = Checkpoint
script_line lines.Tally = Tally
script_line lines.Export = Export

-- what a line says that brings this for a tabulator, with the ballot where it is cast
abbrev pub entry_line : ℕ → Entry → Record → ScriptLine
entry_line tab entries.Cast r = Cast tab (ballot r)
entry_line tab (entries.Withdraw number) r = Withdraw tab number
entry_line tab (entries.Find number) r = Find tab number

-- what a line says that brings nothing for a list
abbrev pub command_line : Command → ScriptLine
command_line (commands.Open w tabs) = Open (work w) tabs
command_line (commands.CastInvalid tab) = CastInvalid tab
command_line commands.Close = Close
command_line commands.Checkpoint = Checkpoint
command_line commands.Tally = Tally
command_line commands.Export = Export

-- the bytes say this, with the ballot where one is cast, or are malformed
abbrev pub IsSaid : Election → List ℕ → Said → Record → Type 0
IsSaid e bytes (said.Item tab entry) r = Says e bytes (entry_line tab entry r)
IsSaid e bytes (said.Command command) r = Says e bytes (command_line command)
IsSaid e bytes said.Malformed r = IsMalformed e bytes
