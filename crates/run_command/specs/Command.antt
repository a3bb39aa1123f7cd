-- The commands of the program, and the words that it is called with: a medium, an election, and a command.
use Rattle.std.specs.Prelude.{◌≢◌, ℕ, List, ◌∷◌, Contains}
use Rattle.run_command.specs.declared.command.Command.{Command}
use Rattle.run_command.specs.declared.command.Command.TheVariants.{Build, Init, Session, Audit, Replay, Large, Sample, Compare, Merge, Migrate, Twin, Part}
use Rattle.medium_commands.specs.Audit.{audit_row}
use Rattle.medium_commands.specs.Init.{init_row}
use Rattle.merge_commands.specs.Merge.{merge_row}
use Rattle.migrate_commands.specs.Migrate.{migrate_row}
use Rattle.part_commands.specs.Part.{part_row}
use Rattle.run_outcome.specs.Row.{IsNamed, IsPlain, Row}
use Rattle.sample_commands.specs.Compare.{compare_row}
use Rattle.sample_commands.specs.Sample.{sample_row}
use Rattle.script_commands.specs.Build.{build_row}
use Rattle.script_commands.specs.Replay.{replay_row}
use Rattle.session_commands.specs.Large.{large_row}
use Rattle.session_commands.specs.Session.{session_row}
use Rattle.twin_commands.specs.Twin.{twin_row}

-- the row of a command
abbrev pub row : Command → Row
row Build = build_row
row Init = init_row
row Session = session_row
row Audit = audit_row
row Replay = replay_row
row (Large o) = large_row o
row (Sample asked) = sample_row asked
row (Compare asked) = compare_row asked
row Merge = merge_row
row Migrate = migrate_row
row Twin = twin_row
row Part = part_row

-- behind this word for the medium and those of some further media, a word may be that of one more
pub record MayFollow (medium : List ℕ) (earlier : List (List ℕ)) (word : List ℕ) : Type 0 where
  pub plain : IsPlain word
  pub not_medium : word ≢ medium
  pub not_earlier : ¬ Contains earlier word

-- the words form a command: a medium and an election, read by their place, and the words of the command's row
abbrev pub Forms : List (List ℕ) → Command → Type 0
Forms (medium ∷ election ∷ word ∷ words) command = IsPlain medium × IsPlain election × IsNamed (row command) medium word words
Forms words command = ⊥

-- the words form no command
abbrev pub FormNone : List (List ℕ) → Type 0
FormNone words = ¬ ((command : Command) × Forms words command)
