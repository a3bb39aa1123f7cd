-- What the command `build` makes of a script. `text` is what the script's source had left before the run, and `left`
-- what it has after it.
use Rattle.std.specs.Prelude.{◌≡◌, ℕ, ◌+◌, ◌≤◌, List, ◌++◌, length, codes, true, false}
use Rattle.ballot_record.specs.LineWhy.{reason}
use Rattle.outside_io.specs.Outside.{Outside, NoFault, IsReadOut, OfScript, RefusesScript}
use Rattle.run_outcome.specs.Row.{Content, EndsWell, Row, TakesNone}
use Rattle.run_outcome.specs.World.{Reported, World}
use Rattle.run_outcome.specs.declared.status.Status.{Status}
use Rattle.run_outcome.specs.declared.status.Status.TheVariants as status
use Rattle.run_outcome.specs.declared.status.Which.TheVariants as which
use Rattle.outside_io.specs.Stream.{GivesAtMost, GivesExactly, TakesAll, TakesSome}
use Rattle.store_spec.specs.Ballot.{Ballot, IsBallotSet, IsWithinLimit}
use Rattle.store_spec.specs.Build.{Builds, IsFirstBad, Reason}
use Rattle.store_spec.specs.Disk.{DiskModel}
use Rattle.store_spec.specs.Election.{Election}
use Rattle.store_spec.specs.Fault.{Rose}
use Rattle.store_spec.specs.Image.{image_of}
use Rattle.store_spec.specs.Input.{script_limit, ended_lines, lines_of, lines_within}

-- the script was read out, and its lines build this set
abbrev pub BuildsSet : Election → List Ballot → List ℕ → List ℕ → Type 0
BuildsSet e set text left = IsReadOut text left × Builds e (lines_of text) set

-- of the lines that end within the limit this is the first bad one, for this reason
abbrev pub HasBadLine : Election → ℕ → Reason → List ℕ → List ℕ → Type 0
HasBadLine e line why text left = IsFirstBad e (lines_within script_limit text) line why × GivesAtMost (script_limit + 1) text left

-- one byte more than the limit was read, and no line that ends within the limit is bad
abbrev pub HasTooMuch : Election → List ℕ → List ℕ → Type 0
HasTooMuch e text left = GivesExactly (script_limit + 1) text left × (set : List Ballot) × Builds e (lines_within script_limit text) set

-- no more than the limit was read, and no line that ended in it is bad
abbrev pub IsGoodSoFar : Election → List ℕ → List ℕ → Type 0
IsGoodSoFar e text left = (given : List ℕ) × (text ≡ given ++ left) × (length given ≤ script_limit) × (set : List Ballot) × Builds e (ended_lines given) set

-- the script's lines build some set, and the sink took of its image as this says
pub record WritesImage {S K : Type 0} (e : Election) (before after : Outside S K) (Takes : List ℕ → Type 0) : Type 0 where
  pub set : List Ballot
  pub held : IsBallotSet e set
  pub within_limit : IsWithinLimit e set
  pub built : OfScript before after (BuildsSet e set)
  pub taken : Takes (image_of e set)

-- All that a run of `build` promises under an election: why each status comes, what was read, and what was written.
abbrev pub BuildEnds : {S K : Type 0} → Election → Status → Outside S K → Outside S K → Type 0
BuildEnds e status.Ok before after = WritesImage e before after (λ image. TakesAll before.sink.taken image after.sink.taken) × NoFault before after
BuildEnds e status.WriteFault before after = WritesImage e before after (λ image. TakesSome before.sink.taken image after.sink.taken) × Rose before.sink.faults after.sink.faults
BuildEnds e (status.BadLine line why) before after = RefusesScript before after (HasBadLine e line (reason why)) × NoFault before after
BuildEnds e (status.TooLong which.Script) before after = RefusesScript before after (HasTooMuch e) × NoFault before after
BuildEnds e (status.ReadFault which.Script) before after = RefusesScript before after (IsGoodSoFar e) × Rose before.script.faults after.script.faults
BuildEnds e status.Memory before after = RefusesScript before after (GivesAtMost (script_limit + 1)) × NoFault before after
BuildEnds e other before after = ⊥

-- ---- the row

-- the lines of a script within its limit build a set
abbrev pub HasBallots : Election → Content → Type 0
HasBallots e content = (length content.script ≤ script_limit) × (set : List Ballot) × Builds e (lines_of content.script) set

abbrev build_ends : {S K D : Type 0} → DiskModel D → Election → Status → Reported → World S K D → World S K D → Type 0
build_ends model e status report before after = BuildEnds e status before.streams after.streams

abbrev pub build_row : Row
build_row = record {
  word = codes "build";
  further = TakesNone;
  touches = record { script = true; disk = false; more = false; report = false };
  served = HasBallots;
  done = EndsWell;
  ends = build_ends;
}
