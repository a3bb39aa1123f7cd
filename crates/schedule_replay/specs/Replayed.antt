-- The text of a replay: the phase that an input opens is stepped as scheduled, and then each in turn until all are at
-- rest.
use Rattle.std.specs.Prelude.{◌≡◌, ℕ, ◌+◌, ◌-◌, ◌==◌, if◌then◌else◌, List, [], ◌∷◌, ◌++◌, length, map, codes, All}
use Rattle.std.specs.Fmt.{decimal}
use Rattle.std.specs.List.Sorted.{IsNonDecreasing}
use Rattle.reply_lines.specs.Words.{met_text}
use Rattle.schedule_replay.specs.Input.{ReplayInput, lists_in, schedule_in}
use Rattle.schedule_replay.specs.declared.line.Kind.{Kind}
use Rattle.schedule_replay.specs.declared.line.Kind.TheVariants as kinds
use Rattle.step_core.specs.Casting as casting
use Rattle.step_core.specs.Casting.{Casting}
use Rattle.step_core.specs.Withdrawing as withdrawing
use Rattle.step_core.specs.Withdrawing.{Withdrawing}
use Rattle.store_spec.specs.BallotLine.{space}
use Rattle.store_spec.specs.Election.{Election}
use Rattle.store_spec.specs.Input.{line_end}
use Rattle.store_spec.specs.Session.{all_reply_lines, withdraw_text}

-- ---- the lines

abbrev pub cell_line : ℕ → ℕ → List ℕ
cell_line place v = codes "cell " ++ (decimal place ++ space ∷ (decimal v ++ line_end ∷ []))

-- `cell P V` for a cell that is not empty
abbrev pub cell_lines_at : ℕ → ℕ → List ℕ
cell_lines_at place v = if v == 0 then [] else cell_line place v

-- the same of each cell, from a place on
abbrev pub cell_lines : ℕ → List ℕ → List ℕ
cell_lines place [] = []
cell_lines place (v ∷ cells) = cell_lines_at place v ++ cell_lines (place + 1) cells

abbrev pub steps_line : ℕ → List ℕ
steps_line count = codes "steps " ++ (decimal count ++ line_end ∷ [])

-- how many steps were scheduled, the cells after them, and the cells and replies at the end
abbrev pub replay_text : ℕ → List ℕ → List ℕ → List (List (List ℕ)) → List ℕ
replay_text count after end replies =
    steps_line count
    ++ cell_lines 0 after
    ++ (codes "rest" ++ line_end ∷ [])
    ++ cell_lines 0 end
    ++ all_reply_lines 1 replies

abbrev pub cast_words : Casting → List (List (List ℕ))
cast_words c = map (λ tab. map met_text (map (λ a. a.met) tab.answers)) c.tabs

abbrev pub withdraw_words : Withdrawing → List (List (List ℕ))
withdraw_words w = map (λ tab. map withdraw_text (map (λ a. a.reply) tab.answers)) w.tabs

-- ---- the steps

-- From `begin` a schedule leads to `after`. From there on they step in ascending order, each as often as it takes, until
-- `end`, where nobody has anything left to do. That the phase then has its outcome, `ended`, follows from the rest by
-- the laws of `step_core`; it stands here for the reader.
pub record PlaysSchedule {C : Type 0} (Runs : C → List ℕ → C → Type 0) (IsDone HasEnded : C → Type 0) (begin : C) (schedule : List ℕ) (after end : C) : Type 0 where
  pub scheduled : Runs begin schedule after
  pub rounds : List ℕ
  pub ascending : IsNonDecreasing rounds
  pub rested : Runs after rounds end
  pub done : IsDone end
  pub ended : HasEnded end

-- those who step are counted from 1 in an input, and from 0 in a phase
abbrev pub places_of : List ℕ → List ℕ
places_of turns = map (λ tab. tab - 1) turns

pub record ReplaysCast (e : Election) (base : List ℕ) (lists : List (List ℕ)) (turns text : List ℕ) : Type 0 where
  pub after : Casting
  pub end : Casting
  pub plays : PlaysSchedule casting.Runs (λ c. All casting.IsDone c.tabs) casting.HasEnded (casting.opened e.bits e.salt e.limit base lists) (places_of turns) after end
  pub is : text ≡ replay_text (length turns) (casting.cells_in after) (casting.cells_in end) (cast_words end)

pub record ReplaysWithdraw (e : Election) (base : List ℕ) (lists : List (List ℕ)) (turns text : List ℕ) : Type 0 where
  pub after : Withdrawing
  pub end : Withdrawing
  pub plays : PlaysSchedule withdrawing.Runs (λ w. All withdrawing.IsDone w.tabs) withdrawing.HasEnded (withdrawing.opened e.bits e.salt e.limit base lists) (places_of turns) after end
  pub is : text ≡ replay_text (length turns) (withdrawing.cells_in after) (withdrawing.cells_in end) (withdraw_words end)

abbrev pub ReplaysAs : Kind → Election → List ℕ → List (List ℕ) → List ℕ → List ℕ → Type 0
ReplaysAs kinds.Cast = ReplaysCast
ReplaysAs kinds.Withdraw = ReplaysWithdraw

-- the text of the replay of an input
abbrev pub Replayed : Election → ReplayInput → List ℕ → Type 0
Replayed e input text = ReplaysAs input.kind e input.base (lists_in input) (schedule_in input) text
