-- What the tables of casting ask of a state and of the word that is found, and how the code's states and notes are seen.
use Rattle.std.specs.Prelude.{◌≡◌, ◌≢◌, ℕ, ◌%◌, ◌<◌}
use Rattle.step_core.specs.declared.cast.CastNote.{CastNote}
use Rattle.step_core.specs.declared.cast.CastNote.TheVariants as notes
use Rattle.step_core.specs.declared.cast.CastState.{CastState}
use Rattle.step_core.specs.declared.cast.CastState.TheVariants as states
use Rattle.store_spec.specs.Act.{left_by, word_of}
use Rattle.store_spec.specs.CastStep as definition
use Rattle.store_spec.specs.CastStep.CastNote.{Quiet, Claimed, Taken, Full, Placed}
use Rattle.store_spec.specs.CastStep.CastState.{Rest, Probing, Carrying, Ready}

abbrev pub state_of : CastState → definition.CastState
state_of states.Rest = Rest
state_of (states.Probing number tries) = Probing number tries
state_of (states.Carrying number place) = Carrying number place
state_of (states.Ready number place seen) = Ready number place seen

abbrev pub note_of : CastNote → definition.CastNote
note_of notes.Quiet = Quiet
note_of notes.Claimed = Claimed
note_of notes.Taken = Taken
note_of notes.Full = Full
note_of notes.Placed = Placed

-- the number is not 0, its place is a cell, and a claim word is left to try
abbrev pub FitsIn : definition.Table → definition.CastState → Type 0
FitsIn t Rest = Unit {0}
FitsIn t (Probing x k) = (x ≢ 0) × (k < t.claims)
FitsIn t (Carrying v i) = (v ≢ 0) × (i < t.cells)
FitsIn t (Ready v i s) = (v ≢ 0) × (i < t.cells)

-- a number that looks for a claim word began at this one
abbrev pub BeginsAt : definition.Table → definition.CastState → ℕ → Type 0
BeginsAt t Rest first = Unit {0}
BeginsAt t (Probing x k) first = first ≡ x % t.claims
BeginsAt t (Carrying v i) first = Unit {0}
BeginsAt t (Ready v i s) first = Unit {0}

-- a step may find this word: a number in hand stands in no cell, and at rest there is no step
abbrev pub MayFind : definition.CastState → ℕ → Type 0
MayFind Rest found = ⊥
MayFind (Probing x k) found = Unit {0}
MayFind (Carrying v i) found = found ≢ v
MayFind (Ready v i s) found = found ≢ v

-- the row of the table for what the state does and what its word is found to hold leads to this state, with this note
abbrev pub LeadsTo : definition.Table → definition.CastState → ℕ → definition.CastState → definition.CastNote → Type 0
LeadsTo t from found new note =
    let act = definition.cast_act t from in definition.CastRow t from (word_of act) found (left_by act found) new note
