-- The atomic steps of a withdrawer, a row of their table each. A step finds a value in one word, leaves that word or
-- writes it, and changes the state of the withdrawer that makes it. The words of a withdrawing phase are its cells
-- and, behind them, a flag for each cell.
use Rattle.std.specs.Prelude.{◌≡◌, ◌≢◌, ℕ, ◌+◌, ◌-◌, ◌*◌, ◌<◌, ◌≤◌, ◌==◌, ◌⊎◌, if◌then◌else◌, List, [], ◌∷◌, ◌++◌, length, Some, slice_get, slice_index, slice_set}
use Rattle.store_spec.specs.Act.{Act}
use Rattle.store_spec.specs.Act.Act.{Nothing, Load, Trade}

-- A withdrawer is at rest, or has a number. It has chosen a number, and walks up to where the number may stand; it
-- owes one removal of a number, from the cell `bound` or one below; it looks for another number to fill the hole at
-- `bound`, upwards and then down again, with a candidate that it saw in the cell `source`.
pub data WithdrawState : Type 0 where
  Rest : WithdrawState
  Chosen : (number place : ℕ) → WithdrawState
  Owing : (number bound : ℕ) → WithdrawState
  Up : (number bound place : ℕ) → WithdrawState
  Down : (number bound place candidate source : ℕ) → WithdrawState

pub data WithdrawNote : Type 0 where
  Quiet : WithdrawNote
  Gone : WithdrawNote
  Begun : WithdrawNote
  Done : WithdrawNote

-- A cell's word fits a hole that a number leaves: it is 0, or a lower number whose home is not past the hole.
abbrev pub Fits : (ℕ → ℕ) → ℕ → ℕ → ℕ → Type 0
Fits home x hole word = (word ≡ 0) ⊎ ((home word ≤ hole) × (word < x))

-- The first step for a number is a swap of its flag to 1. What it finds there, the new state, and the note:
pub data FirstRow (home : ℕ → ℕ) (x : ℕ) : ℕ → WithdrawState → WithdrawNote → Type 0 where
  found_gone : FirstRow home x 1 Rest Gone
  chose : FirstRow home x 0 (Chosen x (home x)) Quiet

-- Each later step. The lines of a row: its name and its conditions; the state, the cell, the words that the step finds
-- there and leaves there; the new state and the note.
pub data WithdrawRow (home : ℕ → ℕ)
    : (state : WithdrawState) (cell found left : ℕ) (new : WithdrawState) (note : WithdrawNote) → Type 0 where
  walked_on : {x place word : ℕ} → x < word
      → WithdrawRow home (Chosen x place) place word word
      (Chosen x (place + 1)) Quiet
  began : {x place word : ℕ} → word ≤ x
      → WithdrawRow home (Chosen x place) place word word
      (Owing x place) Begun
  found_owed : {x bound : ℕ}
      → WithdrawRow home (Owing x bound) bound x x
      (Up x bound (bound + 1)) Quiet
  looked_lower : {x bound word : ℕ} → word ≢ x
      → WithdrawRow home (Owing x (bound + 1)) (bound + 1) word word
      (Owing x bound) Quiet
  looked_higher : {x bound place word : ℕ} → ¬ Fits home x bound word
      → WithdrawRow home (Up x bound place) place word word
      (Up x bound (place + 1)) Quiet
  found_candidate : {x bound place word : ℕ} → Fits home x bound word
      → WithdrawRow home (Up x bound (place + 1)) (place + 1) word word
      (Down x bound place word (place + 1)) Quiet
  found_lower_candidate : {x bound place c source word : ℕ} → bound ≤ place → Fits home x bound word
      → WithdrawRow home (Down x bound (place + 1) c source) (place + 1) word word
      (Down x bound place word (place + 1)) Quiet
  kept_candidate : {x bound place c source word : ℕ} → bound ≤ place → ¬ Fits home x bound word
      → WithdrawRow home (Down x bound (place + 1) c source) (place + 1) word word
      (Down x bound place c source) Quiet
  emptied : {x bound source : ℕ}
      → WithdrawRow home (Down x bound bound 0 source) bound x 0
      Rest Done
  refilled : {x bound c source : ℕ} → c ≢ 0
      → WithdrawRow home (Down x bound bound c source) bound x c
      (Owing c source) Quiet
  lost : {x bound c source word : ℕ} → word ≢ x
      → WithdrawRow home (Down x (bound + 1) (bound + 1) c source) (bound + 1) word word
      (Owing x bound) Quiet

-- what the next step does to a word; what it leaves there is what the row says
abbrev pub withdraw_act : WithdrawState → Act
withdraw_act Rest = Nothing
withdraw_act (Chosen x place) = Load place
withdraw_act (Owing x bound) = Load bound
withdraw_act (Up x bound place) = Load place
withdraw_act (Down x bound place c source) = if place == bound then Trade bound x c else Load place

-- What is left of the steps for a number: the walk, the owed number, its bound, and the cells to read. Of these an
-- earlier one counts more.
abbrev pub withdraw_measure : ℕ → WithdrawState → List ℕ
withdraw_measure cells Rest = 0 ∷ 0 ∷ 0 ∷ 0 ∷ []
withdraw_measure cells (Chosen x place) = (cells - place) ∷ 0 ∷ 0 ∷ 0 ∷ []
withdraw_measure cells (Owing x bound) = 0 ∷ x ∷ bound ∷ 2 * cells ∷ []
withdraw_measure cells (Up x bound place) = 0 ∷ x ∷ bound ∷ (2 * cells - place) ∷ []
withdraw_measure cells (Down x bound place c source) = 0 ∷ x ∷ bound ∷ (place - bound) ∷ []

-- ---- a withdrawer among others

-- What is kept of a withdrawer: its state, the numbers whose removal it has begun, and those that it found gone.
pub record WithdrawView : Type 0 where
  pub state : WithdrawState
  pub begun : List ℕ
  pub gone : List ℕ

-- a withdrawer that is new, or whose numbers were handed to another
abbrev pub fresh_withdraw_view : WithdrawView
fresh_withdraw_view = record { state = Rest; begun = []; gone = [] }

-- the number that a state is about, and 0 at rest
abbrev pub withdraw_number : WithdrawState → ℕ
withdraw_number Rest = 0
withdraw_number (Chosen x place) = x
withdraw_number (Owing x bound) = x
withdraw_number (Up x bound place) = x
withdraw_number (Down x bound place c source) = x

-- the view after a step for a number: the new state, and the number in the list that the note names
abbrev pub withdraw_view_after : WithdrawView → ℕ → WithdrawState → WithdrawNote → WithdrawView
withdraw_view_after view x new Quiet = record { state = new; begun = view.begun; gone = view.gone }
withdraw_view_after view x new Done = record { state = new; begun = view.begun; gone = view.gone }
withdraw_view_after view x new Gone = record { state = new; begun = view.begun; gone = view.gone ++ x ∷ [] }
withdraw_view_after view x new Begun = record { state = new; begun = view.begun ++ x ∷ []; gone = view.gone }

-- a number, and its cell in the base, the cells that the phase began with
pub record StandsInBase (base : List ℕ) (x cell : ℕ) : Type 0 where
  pub some : x ≢ 0
  pub stands : slice_index base cell ≡ x

-- A step begins with a number of the base, or goes on. The third line: the state, the number, the word, what it finds
-- there and leaves there, the new state, and the note.
pub data WithdrawMove (home : ℕ → ℕ) (base : List ℕ)
    : (state : WithdrawState) (number word found left : ℕ) (new : WithdrawState) (note : WithdrawNote) → Type 0 where
  begins : {x cell found : ℕ} {new : WithdrawState} {note : WithdrawNote}
      → StandsInBase base x cell → FirstRow home x found new note
      → WithdrawMove home base Rest x (length base + cell) found 1 new note
  goes_on : {state : WithdrawState} {cell found left : ℕ} {new : WithdrawState} {note : WithdrawNote}
      → WithdrawRow home state cell found left new note
      → WithdrawMove home base state (withdraw_number state) cell found left new note

-- One step: one row of the table, on one of the words and in the view at `id`. All else stays.
pub record WithdrawStep (home : ℕ → ℕ) (base words : List ℕ) (views : List WithdrawView) (id : ℕ) (now : List ℕ)
    (views_now : List WithdrawView) : Type 0 where
  pub view : WithdrawView
  pub acts : slice_get views id ≡ Some view
  pub number : ℕ
  pub word : ℕ
  pub left : ℕ
  pub new : WithdrawState
  pub note : WithdrawNote
  pub move : WithdrawMove home base view.state number word (slice_index words word) left new note
  pub words_now : now ≡ slice_set words word left
  pub view_now : views_now ≡ slice_set views id (withdraw_view_after view number new note)
