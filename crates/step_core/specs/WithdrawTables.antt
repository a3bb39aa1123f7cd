-- What the tables of withdrawing ask of a state and of the word that is found, and how the code's states and notes are
-- seen.
use Rattle.std.specs.Prelude.{◌≡◌, ◌≢◌, ℕ, ◌<◌, ◌≤◌, ⊤}
use Rattle.step_core.specs.declared.withdraw.WithdrawNote.{WithdrawNote}
use Rattle.step_core.specs.declared.withdraw.WithdrawNote.TheVariants as notes
use Rattle.step_core.specs.declared.withdraw.WithdrawState.{WithdrawState}
use Rattle.step_core.specs.declared.withdraw.WithdrawState.TheVariants as states
use Rattle.store_spec.specs.Act.{left_by, word_of}
use Rattle.store_spec.specs.WithdrawStep as definition
use Rattle.store_spec.specs.WithdrawStep.WithdrawNote.{Quiet, Gone, Begun, Done}
use Rattle.store_spec.specs.WithdrawStep.WithdrawState.{Rest, Chosen, Owing, Up, Down}

abbrev pub state_of : WithdrawState → definition.WithdrawState
state_of states.Rest = Rest
state_of (states.Chosen number place) = Chosen number place
state_of (states.Owing number bound) = Owing number bound
state_of (states.Up number bound place) = Up number bound place
state_of (states.Down number bound place candidate source) = Down number bound place candidate source

abbrev pub note_of : WithdrawNote → definition.WithdrawNote
note_of notes.Quiet = Quiet
note_of notes.Gone = Gone
note_of notes.Begun = Begun
note_of notes.Done = Done

-- the number is not 0, and the places are cells: a search upwards is above its hole, one downwards not below it
abbrev pub FitsIn : ℕ → definition.WithdrawState → Type 0
FitsIn cells Rest = ⊤
FitsIn cells (Chosen x place) = (x ≢ 0) × (place < cells)
FitsIn cells (Owing x bound) = (x ≢ 0) × (bound < cells)
FitsIn cells (Up x bound place) = (x ≢ 0) × (bound < place) × (place < cells)
FitsIn cells (Down x bound place c source) = (x ≢ 0) × (bound ≤ place) × (place < cells) × (source < cells)

-- A step may find this word: another than the owed number is found at the bound only where there is a cell below. At
-- rest there is no step.
abbrev pub MayFind : definition.WithdrawState → ℕ → Type 0
MayFind Rest found = ⊥
MayFind (Chosen x place) found = ⊤
MayFind (Owing x bound) found = found ≢ x → 0 < bound
MayFind (Up x bound place) found = ⊤
MayFind (Down x bound place c source) found = place ≡ bound → found ≢ x → 0 < bound

-- the row of the table for what the state does and what its word is found to hold leads to this state, with this note
abbrev pub LeadsTo : (ℕ → ℕ) → definition.WithdrawState → ℕ → definition.WithdrawState → definition.WithdrawNote → Type 0
LeadsTo home from found new note =
    let act = definition.withdraw_act from in definition.WithdrawRow home from (word_of act) found (left_by act found) new note
