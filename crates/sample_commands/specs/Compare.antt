-- What the command `compare` makes of a medium and a script. `before` and `after` are what stands outside.
use Rattle.std.specs.Prelude.{◌≡◌, ◌⊎◌, ℕ, ◌+◌, ◌≤◌, List, [], ◌∷◌, ◌++◌, Option, Result, Ok as Fine, Err, codes, length, map, true, false}
use Rattle.std.specs.Fmt.{decimal}
use Rattle.outside_io.specs.Outside.{NoFault, OfScript, Output, Outside}
use Rattle.outside_io.specs.Reading.{ReadFirst, ReadLines}
use Rattle.outside_io.specs.Reading.Ending.{ReadOut, TooMuch, Faulted}
use Rattle.outside_io.specs.Stream.{GivesAtMost, TakesAll, TakesSome}
use Rattle.recovery.specs.ReadsOnly.{WritesNothing}
use Rattle.run_outcome.specs.Row.{Content, EndsWell, Row}
use Rattle.run_outcome.specs.World.{Reported, World}
use Rattle.run_outcome.specs.declared.status.Status.{Status}
use Rattle.run_outcome.specs.declared.status.Status.TheVariants as status
use Rattle.run_outcome.specs.declared.status.Which.TheVariants as which
use Rattle.sample_commands.specs.Asked.{IsAsked}
use Rattle.sample_commands.specs.Looked.{ShowsNone, ShowsSet}
use Rattle.sample_commands.specs.Sample.{asked_sample}
use Rattle.sample_commands.specs.declared.asked.Asked.{Asked}
use Rattle.store_spec.specs.Ballot.{Ballot}
use Rattle.store_spec.specs.BallotLine.{space}
use Rattle.store_spec.specs.Disk.{DiskModel}
use Rattle.store_spec.specs.Election.{Election}
use Rattle.store_spec.specs.Fault.{Rose}
use Rattle.store_spec.specs.Input.{script_limit}
use Rattle.store_spec.specs.Medium.{HoldsSome}
use Rattle.store_spec.specs.Report.{count_line, lines_text}
use Rattle.ticket_sample.specs.Compared.{AnsweredLine, AreAnswered, AreMissing}
use Rattle.ticket_sample.specs.declared.compare.CompareReply.{CompareReply}
use Rattle.ticket_sample.specs.declared.compare.CompareReply.TheVariants.{Malformed, Invalid, Outside as NotInSample, Repeated, Match, Differs}

-- ---- the text of the replies

abbrev pub reply_word : CompareReply → List ℕ
reply_word Malformed = codes "malformed"
reply_word Invalid = codes "invalid"
reply_word NotInSample = codes "outside"
reply_word Repeated = codes "repeated"
reply_word Match = codes "match"
reply_word Differs = codes "differs"

-- `line L REPLY`
abbrev pub compare_reply_line : ℕ → CompareReply → List ℕ
compare_reply_line at reply = codes "line " ++ decimal at ++ space ∷ reply_word reply

-- one for each line, of which the first has this number
abbrev pub compare_reply_lines : ℕ → List AnsweredLine → List (List ℕ)
compare_reply_lines at [] = []
compare_reply_lines at (one ∷ answers) = compare_reply_line at one.reply ∷ compare_reply_lines (at + 1) answers

abbrev pub replies_text : List AnsweredLine → List ℕ
replies_text answers = lines_text (compare_reply_lines 1 answers)

-- the replies, and how many ballots were compared with no line
abbrev pub compare_text : List AnsweredLine → ℕ → List ℕ
compare_text answers missing = replies_text answers ++ lines_text (count_line (codes "missing") missing ∷ [])

-- ---- a run

-- Lines were answered: these, of the script that was read so far, each with its reply; and of their replies the sink took
-- what this says.
pub record AnswersLines {S K : Type 0} (e : Election) (sample : List Ballot) (before after : Outside S K)
    (Read : List ℕ → List ℕ → List (Option (List ℕ)) → Type 0) (Takes : List AnsweredLine → Type 0) : Type 0 where
  pub answers : List AnsweredLine
  pub read : OfScript before after (λ text left. Read text left (map (λ one. one.line) answers))
  pub right : AreAnswered e sample answers
  pub takes : Takes answers

-- the sink took the replies, and was left alone where there are none
pub record TakesReplies {S K : Type 0} (before after : Outside S K) (answers : List AnsweredLine) : Type 0 where
  pub all : TakesAll before.sink.taken (replies_text answers) after.sink.taken
  pub none : answers ≡ [] → after.sink ≡ before.sink

-- it took them, and how many ballots of the sample are missing
pub record TakesWhole {S K : Type 0} (e : Election) (sample : List Ballot) (before after : Outside S K) (answers : List AnsweredLine) : Type 0 where
  pub missing : ℕ
  pub are_missing : AreMissing e sample answers missing
  pub all : TakesAll before.sink.taken (compare_text answers missing) after.sink.taken

-- it took some first part of the replies
abbrev pub TakesPart : {S K : Type 0} → Outside S K → Outside S K → List AnsweredLine → Type 0
TakesPart before after answers = TakesSome before.sink.taken (replies_text answers) after.sink.taken

-- it took some first part of those and of how many are missing
abbrev pub TakesWholePart : {S K : Type 0} → Election → List Ballot → Outside S K → Outside S K → List AnsweredLine → Type 0
TakesWholePart e sample before after answers =
    (missing : ℕ) × AreMissing e sample answers missing × TakesSome before.sink.taken (compare_text answers missing) after.sink.taken

-- The sink took a text, or some first part of it, or there was no memory and it was left alone.
abbrev pub WritesText : {K : Type 0} → List ℕ → Result (Unit {0}) Status → Output K → Output K → Type 0
WritesText text (Fine done) old new = TakesAll old.taken text new.taken × (new.faults ≡ old.faults)
WritesText text (Err status.WriteFault) old new = TakesSome old.taken text new.taken × Rose old.faults new.faults
WritesText text (Err status.Memory) old new = new ≡ old
WritesText text (Err other) old new = ⊥

-- these are the first lines of the script, of which no more was read than one byte past the limit
abbrev pub ReadSome : List ℕ → List ℕ → List (Option (List ℕ)) → Type 0
ReadSome text left lines = ReadFirst text left lines × GivesAtMost (script_limit + 1) text left

-- How a run on this sample ends, and why. How many ballots are missing is told only of a script that was read to its end,
-- also where the sink fails there.
abbrev pub LinesEnd : {S K : Type 0} → Election → List Ballot → Status → Outside S K → Outside S K → Type 0
LinesEnd e sample status.Ok before after =
    AnswersLines e sample before after (ReadLines ReadOut) (TakesWhole e sample before after) × NoFault before after
LinesEnd e sample (status.TooLong which.Script) before after =
    AnswersLines e sample before after (ReadLines TooMuch) (TakesReplies before after) × NoFault before after
LinesEnd e sample (status.ReadFault which.Script) before after =
    AnswersLines e sample before after (ReadLines Faulted) (TakesReplies before after) × Rose before.script.faults after.script.faults
    × (after.sink.faults ≡ before.sink.faults)
LinesEnd e sample status.WriteFault before after =
    (AnswersLines e sample before after ReadSome (TakesPart before after) ⊎ AnswersLines e sample before after (ReadLines ReadOut) (TakesWholePart e sample before after))
    × Rose before.sink.faults after.sink.faults × (after.script.faults ≡ before.script.faults)
LinesEnd e sample status.Memory before after =
    AnswersLines e sample before after ReadSome (TakesReplies before after) × NoFault before after
LinesEnd e sample other before after = ⊥

-- the disk holds a set, and the lines were compared with its sample
pub record ComparesLines {S K D : Type 0} (model : DiskModel D) (e : Election) (asked : Asked) (status : Status) (before after : Outside S K) (old new : D) : Type 0 where
  pub set : List Ballot
  pub shows : ShowsSet model e set old new
  pub ends : LinesEnd e (asked_sample asked set) status before after

-- it shows none, and script and sink were left alone
pub record ComparesNone {S K D : Type 0} (model : DiskModel D) (e : Election) (status : Status) (before after : Outside S K) (old new : D) : Type 0 where
  pub shows : ShowsNone model e status old new
  pub untouched : after ≡ before

-- All that a run of `compare` promises under an election; `old` and `new` are the disk before and after. Nothing is written
-- to it: a read gives what it gave, and a crash at each moment leaves what it might have left before.
pub record CompareEnds {S K D : Type 0} (model : DiskModel D) (e : Election) (asked : Asked) (status : Status) (before after : Outside S K) (old new : D) : Type 0 where
  pub tells : ComparesNone model e status before after old new ⊎ ComparesLines model e asked status before after old new
  pub writes_nothing : WritesNothing model.seen model.calls model.may_leave old new

-- ---- the row

-- a medium that holds a set, and any script within its limit
abbrev pub HasLines : Election → Content → Type 0
HasLines e content = HoldsSome e content.disk × (length content.script ≤ script_limit)

abbrev compare_ends : {S K D : Type 0} → Asked → DiskModel D → Election → Status → Reported → World S K D → World S K D → Type 0
compare_ends asked model e status report before after = CompareEnds model e asked status before.streams after.streams before.disk after.disk

abbrev pub compare_row : Asked → Row
compare_row asked = record {
  word = codes "compare";
  further = λ words. IsAsked words asked;
  touches = record { script = true; disk = true; more = false; report = false };
  served = HasLines;
  done = EndsWell;
  ends = compare_ends asked;
}
