-- What a replay makes of its script. `text` is what the script's source had left before, and `left` what it has after.
use Rattle.std.specs.Prelude.{◌≡◌, ℕ, ◌+◌, ◌≤◌, List, ◌++◌, length, Result, Ok, Err}
use Rattle.ballot_record.specs.LineWhy.{reason}
use Rattle.outside_io.specs.Stream.{GivesAtMost, GivesExactly, TakesAll, TakesSome}
use Rattle.schedule_replay.specs.Input.{IsInput, ReplayInput}
use Rattle.outside_io.specs.Outside.{Outside, NoFault, IsReadOut, OfScript, RefusesScript}
use Rattle.schedule_replay.specs.Refusal.{AreGood, AreLinesOf, EndsEarly, IsFirstBadReplayLine}
use Rattle.schedule_replay.specs.Replayed.{Replayed}
use Rattle.schedule_replay.specs.declared.fault.ReplayFault.{ReplayFault}
use Rattle.schedule_replay.specs.declared.fault.ReplayFault.TheVariants as faults
use Rattle.store_spec.specs.Build.{Reason}
use Rattle.store_spec.specs.Election.{Election}
use Rattle.store_spec.specs.Fault.{Rose}
use Rattle.store_spec.specs.Input.{script_limit, ended_lines, lines_of, taken_lines, taken_within}

-- the script was read out, and its lines are the input's
abbrev pub SpellsInput : ReplayInput → List ℕ → List ℕ → Type 0
SpellsInput input text left = IsReadOut text left × AreLinesOf input (taken_lines (lines_of text))

-- a line that ends within the limit is the first bad one, or the script was read out and ends before its second line
pub data HasBadLine (e : Election) (line : ℕ) (why : Reason) (text left : List ℕ) : Type 0 where
  bad : IsFirstBadReplayLine e (taken_within script_limit text) line why → GivesAtMost (script_limit + 1) text left → HasBadLine e line why text left
  early : IsReadOut text left → EndsEarly e (taken_lines (lines_of text)) line why → HasBadLine e line why text left

-- one byte more than the limit was read, and no line that ends within the limit is bad
abbrev pub HasTooMuch : Election → List ℕ → List ℕ → Type 0
HasTooMuch e text left = GivesExactly (script_limit + 1) text left × AreGood e (taken_within script_limit text)

-- no more than the limit was read, and no line that ended in it is bad
abbrev pub IsGoodSoFar : Election → List ℕ → List ℕ → Type 0
IsGoodSoFar e text left = (given : List ℕ) × (text ≡ given ++ left) × (length given ≤ script_limit) × AreGood e (taken_lines (ended_lines given))

-- why the script gives no input
abbrev pub NoInput : Election → ReplayFault → List ℕ → List ℕ → Type 0
NoInput e (faults.BadLine line why) text left = HasBadLine e line (reason why) text left
NoInput e faults.TooLong text left = HasTooMuch e text left
NoInput e faults.ReadFault text left = IsGoodSoFar e text left
NoInput e faults.Memory text left = GivesAtMost (script_limit + 1) text left
NoInput e faults.WriteFault text left = ⊥

-- the script's lines are those of a valid input, and the sink took of the text of its replay as this says
pub record WritesReplay {S K : Type 0} (e : Election) (before after : Outside S K) (Takes : List ℕ → Type 0) : Type 0 where
  pub input : ReplayInput
  pub valid : IsInput e input
  pub spelled : OfScript before after (SpellsInput input)
  pub text : List ℕ
  pub replayed : Replayed e input text
  pub taken : Takes text

-- All that a replay promises under an election: why each fault comes, what was read, and what was written.
abbrev pub ReplayEnds : {S K : Type 0} → Election → Result (Unit {0}) ReplayFault → Outside S K → Outside S K → Type 0
ReplayEnds e (Ok done) before after = WritesReplay e before after (λ text. TakesAll before.sink.taken text after.sink.taken) × NoFault before after
ReplayEnds e (Err faults.WriteFault) before after = WritesReplay e before after (λ text. TakesSome before.sink.taken text after.sink.taken) × Rose before.sink.faults after.sink.faults
ReplayEnds e (Err faults.ReadFault) before after = RefusesScript before after (IsGoodSoFar e) × Rose before.script.faults after.script.faults
ReplayEnds e (Err fault) before after = RefusesScript before after (NoInput e fault) × NoFault before after

-- the answer is neither a fault of the outside nor want of memory
abbrev pub IsDecided : Result (Unit {0}) ReplayFault → Type 0
IsDecided (Err faults.ReadFault) = ⊥
IsDecided (Err faults.WriteFault) = ⊥
IsDecided (Err faults.Memory) = ⊥
IsDecided answer = Unit {0}
