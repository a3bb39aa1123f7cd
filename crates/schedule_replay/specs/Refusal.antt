-- Which lines are an input, and the first that is bad. A line that is too wide stands as none.
use Rattle.std.specs.Prelude.{◌≡◌, ℕ, ◌+◌, ◌<◌, List, ◌++◌, length, take, Option}
use Rattle.std.specs.List.{AllZip}
use Rattle.schedule_replay.specs.Input.{IsInput, ReplayInput, lines_in}
use Rattle.schedule_replay.specs.ReplayLine.{ReplayLine, TakenAs}
use Rattle.store_spec.specs.Build.{Reason}
use Rattle.store_spec.specs.Build.Reason.{Malformed, Invalid}
use Rattle.store_spec.specs.Election.{Election}

-- the lines spell an input, all of it
abbrev pub AreLinesOf : ReplayInput → List (Option (List ℕ)) → Type 0
AreLinesOf input lines = AllZip TakenAs lines (lines_in input)

-- the parts are those of the first lines of an input
pub record BeginsInput (parts : List ReplayLine) (input : ReplayInput) : Type 0 where
  pub others : List ReplayLine
  pub first : lines_in input ≡ parts ++ others

-- the lines spell the first lines of an input
pub record Begin (lines : List (Option (List ℕ))) (input : ReplayInput) : Type 0 where
  pub parts : List ReplayLine
  pub each : AllZip TakenAs lines parts
  pub first : BeginsInput parts input

-- some input begins with the lines, whether it is valid or not
abbrev pub AreInForm : List (Option (List ℕ)) → Type 0
AreInForm lines = (input : ReplayInput) × Begin lines input

-- some valid input does
abbrev pub AreGood : Election → List (Option (List ℕ)) → Type 0
AreGood e lines = (input : ReplayInput) × Begin lines input × IsInput e input

-- why the last of the lines is bad, where the others are good; the first reason that fits counts
abbrev pub IsLastBad : Election → List (Option (List ℕ)) → Reason → Type 0
IsLastBad e lines Malformed = ¬ AreInForm lines
IsLastBad e lines Invalid = AreInForm lines × ¬ AreGood e lines
IsLastBad e lines other = ⊥

-- line number `at`, counted from 1, is the first bad one, for this reason
pub record IsFirstBadReplayLine (e : Election) (lines : List (Option (List ℕ))) (at : ℕ) (why : Reason) : Type 0 where
  pub index : ℕ
  pub counted : at ≡ index + 1
  pub within : index < length lines
  pub good : AreGood e (take index lines)
  pub bad : IsLastBad e (take (index + 1) lines) why

-- the input ends before its second line: the line that is missing is malformed
pub record EndsEarly (e : Election) (lines : List (Option (List ℕ))) (at : ℕ) (why : Reason) : Type 0 where
  pub good : AreGood e lines
  pub early : length lines < 2
  pub counted : at ≡ length lines + 1
  pub missing : why ≡ Malformed
