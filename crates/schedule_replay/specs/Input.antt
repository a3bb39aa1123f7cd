-- The input of a replay: a set at the opening, what is done to it and by how many, their lists, and a schedule.
use Rattle.std.specs.Prelude.{◌≢◌, ℕ, ◌≤◌, ◌==◌, if◌then◌else◌, List, [], ◌∷◌, ◌++◌, length, map, flat_map, All, AllPairs}
use Rattle.std.specs.List.{range_with_len}
use Rattle.schedule_replay.specs.ReplayLine.{ReplayLine}
use Rattle.schedule_replay.specs.declared.line.Kind.{Kind}
use Rattle.schedule_replay.specs.declared.line.Kind.TheVariants as kinds
use Rattle.schedule_replay.specs.declared.line.Word.{Word}
use Rattle.schedule_replay.specs.declared.line.Word.TheVariants as words
use Rattle.store_spec.specs.Election.{Election}

-- numbers that are appended to a list
pub record Addition : Type 0 where
  pub tab : ℕ
  pub numbers : List ℕ

-- the base, the kind of phase, how many tabulators or withdrawers, what is appended to their lists, and what to the
-- schedule, line by line; they are counted from 1
pub record ReplayInput : Type 0 where
  pub base : List ℕ
  pub kind : Kind
  pub tabs : ℕ
  pub additions : List Addition
  pub turns : List (List ℕ)

-- ---- its lines

abbrev pub word_of_kind : Kind → Word
word_of_kind kinds.Cast = words.Cast
word_of_kind kinds.Withdraw = words.Withdraw

abbrev pub base_line : List ℕ → ReplayLine
base_line base = record { word = words.Start; numbers = base }

abbrev pub kind_line : Kind → ℕ → ReplayLine
kind_line kind tabs = record { word = word_of_kind kind; numbers = tabs ∷ [] }

abbrev pub addition_line : Addition → ReplayLine
addition_line addition = record { word = words.List; numbers = addition.tab ∷ addition.numbers }

abbrev pub turns_line : List ℕ → ReplayLine
turns_line turns = record { word = words.Steps; numbers = turns }

abbrev pub lines_in : ReplayInput → List ReplayLine
lines_in input =
    base_line input.base ∷ kind_line input.kind input.tabs
    ∷ (map addition_line input.additions ++ map turns_line input.turns)

-- ---- what they say

-- the numbers of a list, in order
abbrev pub list_at : List Addition → ℕ → List ℕ
list_at additions tab = flat_map (λ a. if a.tab == tab then a.numbers else []) additions

abbrev pub lists_in : ReplayInput → List (List ℕ)
lists_in input = map (list_at input.additions) (range_with_len 1 input.tabs)

abbrev pub schedule_in : ReplayInput → List ℕ
schedule_in input = flat_map (λ turns. turns) input.turns

-- a set within the election's limit, and nobody is named who is not there
pub record IsInput (e : Election) (input : ReplayInput) : Type 0 where
  pub distinct : AllPairs (λ a b. a ≢ b) input.base
  pub few : length input.base ≤ e.limit
  pub listed : All (λ a. a.tab ≤ input.tabs) input.additions
  pub scheduled : All (All (λ tab. tab ≤ input.tabs)) input.turns
