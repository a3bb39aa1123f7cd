-- What is kept of the lines of a script so far, and what the next line does to it.
use Rattle.std.specs.Prelude.{◌≡◌, ◌≢◌, ℕ, ◌<◌, ◌≤◌, List, [], ◌∷◌, ◌++◌, length, map, All, AllPairs, Option, Some, None, Result, Ok, Err}
use Rattle.ballot_record.specs.LineWhy.{reason}
use Rattle.ballot_record.specs.declared.fault.LineWhy.TheVariants as whys
use Rattle.outside_io.specs.declared.error.Memory.{Memory}
use Rattle.schedule_replay.specs.Input.{IsInput, ReplayInput, base_line, lines_in, lists_in, schedule_in}
use Rattle.schedule_replay.specs.Refusal.{BeginsInput}
use Rattle.schedule_replay.specs.ReplayLine.{HasForm, ReadsAsReplay, ReplayLine}
use Rattle.schedule_replay.specs.declared.fault.Refusal.{Refusal}
use Rattle.schedule_replay.specs.declared.fault.Refusal.TheVariants as refusals
use Rattle.schedule_replay.specs.declared.line.Word.{Word}
use Rattle.schedule_replay.specs.declared.line.Word.TheVariants as words
use Rattle.schedule_replay.specs.declared.script.Script.{Script}
use Rattle.schedule_replay.specs.declared.script.Stage.{Stage}
use Rattle.schedule_replay.specs.declared.script.Stage.TheVariants as stages
use Rattle.store_spec.specs.Build.{Reason}
use Rattle.store_spec.specs.Build.Reason.{Malformed, Invalid}
use Rattle.store_spec.specs.Election.{Election}
use Rattle.store_spec.specs.ScriptLine.{IsNumber, most_tabs}

-- what a line reads as: a word, with numbers behind it
abbrev pub ReadsLine : Result (Option Word) Memory → List ℕ → List ℕ → Type 0
ReadsLine (Ok (Some word)) bytes numbers = ReadsAsReplay bytes (record { word = word; numbers = numbers })
ReadsLine (Ok None) bytes numbers = (line : ReplayLine) → ¬ ReadsAsReplay bytes line
ReadsLine (Err memory) bytes numbers = Unit {0}

-- a word that may come next
abbrev pub MayCome : Stage → Word → Type 0
MayCome stages.Base words.Start = Unit {0}
MayCome stages.Kind words.Cast = Unit {0}
MayCome stages.Kind words.Withdraw = Unit {0}
MayCome stages.Lists words.List = Unit {0}
MayCome stages.Lists words.Steps = Unit {0}
MayCome stages.Turns words.Steps = Unit {0}
MayCome stage word = ⊥

-- the two lines that an input must have are there, and turns may come
abbrev pub HasBothLines : Stage → Type 0
HasBothLines stage = MayCome stage words.Steps

abbrev pub lists_of : Script → List (List ℕ)
lists_of script = map (λ list. list.items) script.lists.items

-- what a phase may be opened with
pub record MayBeOpened (e : Election) (script : Script) : Type 0 where
  pub distinct : AllPairs (λ a b. a ≢ b) script.base.items
  pub few : length script.base.items ≤ e.limit
  pub base : All IsNumber script.base.items
  pub few_lists : length script.lists.items ≤ most_tabs
  pub listed : All (λ list. All IsNumber list.items) script.lists.items
  pub turns : All (λ tab. (1 ≤ tab) × (tab ≤ length script.lists.items)) script.schedule.items

-- all of an input is kept
pub record Keeps (e : Election) (script : Script) (input : ReplayInput) : Type 0 where
  pub valid : IsInput e input
  pub base : script.base.items ≡ input.base
  pub kind : script.kind ≡ input.kind
  pub tabs : input.tabs ≡ length script.lists.items
  pub some_list : 1 ≤ input.tabs
  pub lists : lists_of script ≡ lists_in input
  pub schedule : script.schedule.items ≡ schedule_in input

-- nothing but the base is kept
pub record HoldsBase (script : Script) : Type 0 where
  pub lists : script.lists.items ≡ []
  pub schedule : script.schedule.items ≡ []

-- the lines so far are these, by the stage
abbrev pub IsAt : Stage → Election → Script → List ReplayLine → Type 0
IsAt stages.Base e script parts = (parts ≡ []) × (script.base.items ≡ []) × HoldsBase script
IsAt stages.Kind e script parts = (parts ≡ base_line script.base.items ∷ []) × HoldsBase script
IsAt stages.Lists e script parts = (input : ReplayInput) × (parts ≡ lines_in input) × (input.turns ≡ []) × Keeps e script input
IsAt stages.Turns e script parts = (input : ReplayInput) × (parts ≡ lines_in input) × (0 < length input.turns) × Keeps e script input

pub record HasRead (e : Election) (script : Script) (parts : List ReplayLine) : Type 0 where
  pub ready : MayBeOpened e script
  pub stage : IsAt script.stage e script parts

-- ---- the next line

-- why a line with these parts is refused behind others
abbrev pub IsLineRefused : Election → List ReplayLine → ReplayLine → Reason → Type 0
IsLineRefused e parts line Malformed = (input : ReplayInput) → ¬ BeginsInput (parts ++ line ∷ []) input
IsLineRefused e parts line Invalid =
    ((input : ReplayInput) × BeginsInput (parts ++ line ∷ []) input)
    × ((input : ReplayInput) → IsInput e input → ¬ BeginsInput (parts ++ line ∷ []) input)
IsLineRefused e parts line other = ⊥

-- numbers that stand behind a word in a line of the grammar
pub record AreRead (word : Word) (numbers : List ℕ) : Type 0 where
  pub form : HasForm word numbers
  pub each : All IsNumber numbers

abbrev pub line_at : Word → List ℕ → ReplayLine
line_at word numbers = record { word = word; numbers = numbers }

-- what becomes of a line: it is taken behind those before it, or refused
abbrev pub TakesRead : Result (Unit {0}) Refusal → Election → ReplayLine → Script → Script → Type 0
TakesRead (Ok done) e line old new = (parts : List ReplayLine) → HasRead e old parts → HasRead e new (parts ++ line ∷ [])
TakesRead (Err (refusals.Bad why)) e line old new = (parts : List ReplayLine) → HasRead e old parts → IsLineRefused e parts line (reason why)
TakesRead (Err refusals.Memory) e line old new = Unit {0}

-- the same of the bytes of a line; those that are not in the grammar are malformed
pub data TakesLine (result : Result (Unit {0}) Refusal) (e : Election) (bytes : List ℕ) (old new : Script) : Type 0 where
  reads : (line : ReplayLine) → ReadsAsReplay bytes line → TakesRead result e line old new → TakesLine result e bytes old new
  reads_none : ((line : ReplayLine) → ¬ ReadsAsReplay bytes line) → result ≡ Err (refusals.Bad whys.Malformed) → TakesLine result e bytes old new
  no_memory : result ≡ Err refusals.Memory → TakesLine result e bytes old new
