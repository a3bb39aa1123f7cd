-- All that a run of the program promises.
use Rattle.std.specs.Prelude.{◌≡◌, ◌≢◌, ◌⊎◌, ℕ, List}
use Rattle.run_command.specs.Command.{Forms, FormNone, row}
use Rattle.run_command.specs.ElectionText.{ForElection, RefusesElection}
use Rattle.run_command.specs.declared.command.Command.{Command}
use Rattle.outside_io.specs.Outside.{Input}
use Rattle.run_outcome.specs.Row.{CommandEnds, Row}
use Rattle.run_outcome.specs.World.{Reported, World, nothing_reported}
use Rattle.run_outcome.specs.declared.status.Status.{Status}
use Rattle.run_outcome.specs.declared.status.Status.TheVariants.{Usage}
use Rattle.store_spec.specs.Disk.{DiskModel}

-- A command's run ended at the election and came to nothing else, or the command was carried out, under one election.
abbrev pub RunEnds : {E S K D : Type 0} → DiskModel D → Row → Status → Reported → Input E → Input E → World S K D → World S K D → Type 0
RunEnds model command status report old new before after =
    (RefusesElection status old new × (after ≡ before) × (report ≡ nothing_reported))
    ⊎ ForElection old new (λ e. CommandEnds model command e status report before after)

-- How a run ends: where the words form no command, with `Usage`, and nothing was touched; where they form one, as its row
-- says, and never with `Usage`. `old` and `new` are the election's source before and after, and `before` and `after` all
-- else.
abbrev pub Ends : {E S K D : Type 0} → DiskModel D → List (List ℕ) → Status → Reported → Input E → Input E → World S K D → World S K D → Type 0
Ends model words status report old new before after =
    (FormNone words × (status ≡ Usage) × (new ≡ old) × (after ≡ before) × (report ≡ nothing_reported))
    ⊎ ((command : Command) × Forms words command × (status ≢ Usage) × RunEnds model (row command) status report old new before after)
