-- What a script of record lines gives.
use Rattle.std.specs.Prelude.{ℕ, ◌+◌, List, Result, Ok, Err}
use Rattle.std.specs.List.{AllZip}
use Rattle.ballot_record.specs.LineWhy.{reason}
use Rattle.run_outcome.specs.declared.status.Status.{Status}
use Rattle.run_outcome.specs.declared.status.Status.TheVariants as status
use Rattle.run_outcome.specs.declared.status.Which.TheVariants as which
use Rattle.script_commands.specs.Ballots.{ballots_so_far}
use Rattle.script_commands.specs.Build.{HasBadLine, HasTooMuch, IsGoodSoFar}
use Rattle.outside_io.specs.Outside.{IsReadOut}
use Rattle.script_commands.specs.declared.build.ballots.Ballots.{Ballots}
use Rattle.script_commands.specs.declared.build.script.ScriptFault.{ScriptFault}
use Rattle.script_commands.specs.declared.build.script.ScriptFault.TheVariants.{BadLine, TooLong, ReadFault, Memory}
use Rattle.outside_io.specs.Stream.{GivesAtMost}
use Rattle.store_spec.specs.BallotLine.{Spells}
use Rattle.store_spec.specs.Election.{Election}
use Rattle.store_spec.specs.Input.{script_limit, lines_of}

-- The ballots that all lines spell, one for one, or why there are none. `text` is what the source had left, and `left`
-- what it has now.
abbrev pub Reads : Result Ballots ScriptFault → Election → List ℕ → List ℕ → Type 0
Reads (Ok ballots) e text left = IsReadOut text left × AllZip (Spells e) (lines_of text) (ballots_so_far ballots)
Reads (Err (BadLine line why)) e text left = HasBadLine e line (reason why) text left
Reads (Err TooLong) e text left = HasTooMuch e text left
Reads (Err ReadFault) e text left = IsGoodSoFar e text left
Reads (Err Memory) e text left = GivesAtMost (script_limit + 1) text left

-- the statuses of its faults
abbrev pub script_status : ScriptFault → Status
script_status (BadLine line why) = status.BadLine line why
script_status TooLong = status.TooLong which.Script
script_status ReadFault = status.ReadFault which.Script
script_status Memory = status.Memory
