-- How the tabulators of a core are seen, and what one step does with a tabulator and the words.
use Rattle.std.specs.Prelude.{◌≡◌, ◌≢◌, ℕ, ◌<◌, ◌≤◌, List, [], ◌∷◌, length, drop, slice_index, slice_set, vec_len, vec_capacity}
use Rattle.step_core.specs.CastTables.{FitsIn, MayFind, state_of}
use Rattle.step_core.specs.Casting as casting
use Rattle.step_core.specs.Casting.{after_step, answers_at_once, next_from}
use Rattle.step_core.specs.declared.tabulator.CastMet.{CastMet}
use Rattle.step_core.specs.declared.tabulator.CastMet.TheVariants as mets
use Rattle.step_core.specs.declared.tabulator.Tabulator.{Tabulator}
use Rattle.store_spec.specs.Act.{word_of}
use Rattle.store_spec.specs.CastStep.{CastNote, CastRow, CastState, Table, cast_act}
use Rattle.store_spec.specs.CastStep as notes
use Rattle.store_spec.specs.CastStep.CastState.{Rest, Probing, Carrying, Ready}
use Rattle.store_spec.specs.Phase.{Answer, Met}
use Rattle.store_spec.specs.Phase.Met.{Held, Accepted, Taken, Full}

abbrev pub met_of : CastMet → Met
met_of mets.Held = Held
met_of mets.Accepted = Accepted
met_of mets.Taken = Taken
met_of mets.Full = Full

-- the first numbers of a list with their replies
abbrev pub answers_of : List ℕ → List CastMet → List Answer
answers_of numbers [] = []
answers_of [] (met ∷ replies) = []
answers_of (x ∷ numbers) (met ∷ replies) = record { number = x; met = met_of met } ∷ answers_of numbers replies

abbrev pub tab_of : Tabulator → casting.Tabulator
tab_of tab = record {
  state = state_of tab.state;
  answers = answers_of tab.list.items tab.replies.items;
  left = drop (length tab.replies.items) tab.list.items;
}

-- there is room for a reply to each number of the list
pub record HasReplyRoom (tab : Tabulator) : Type 0 where
  pub no_more : vec_len tab.replies ≤ vec_len tab.list
  pub room : vec_len tab.list ≤ vec_capacity tab.replies

-- the list and the room for replies are as they were
pub record KeepsList (old now : Tabulator) : Type 0 where
  pub list : now.list ≡ old.list
  pub room : HasReplyRoom now

-- what a number meets that needs no step, whatever numbers stand behind it
abbrev pub AnswersAtOnce : List ℕ → ℕ → ℕ → Met → Type 0
AnswersAtOnce base claims x met = (xs : List ℕ) → answers_at_once base claims (x ∷ xs) ≡ record { number = x; met = met } ∷ answers_at_once base claims xs

abbrev pub NeedsStep : List ℕ → ℕ → ℕ → Type 0
NeedsStep base claims x = (xs : List ℕ) → answers_at_once base claims (x ∷ xs) ≡ []

-- a number is left where the note answers one
abbrev pub MayTell : CastNote → List ℕ → Type 0
MayTell notes.Quiet left = Unit {0}
MayTell notes.Claimed left = 0 < length left
MayTell notes.Taken left = 0 < length left
MayTell notes.Full left = 0 < length left
MayTell notes.Placed left = Unit {0}

-- the number that is tried is left
abbrev pub HasTried : CastState → List ℕ → Type 0
HasTried Rest left = Unit {0}
HasTried (Probing x k) left = 0 < length left
HasTried (Carrying v i) left = Unit {0}
HasTried (Ready v i s) left = Unit {0}

-- what a step asks of a tabulator and the words
pub record MayStep (t : Table) (words : List ℕ) (tab : casting.Tabulator) : Type 0 where
  pub fits : FitsIn t (next_from tab.state tab.left)
  pub finds : next_from tab.state tab.left ≢ Rest → MayFind (next_from tab.state tab.left) (slice_index words (word_of (cast_act t (next_from tab.state tab.left))))
  pub within : word_of (cast_act t (next_from tab.state tab.left)) < length words
  pub tried : HasTried (next_from tab.state tab.left) tab.left

-- what a step leaves of them
pub record TabSteps (t : Table) (base words : List ℕ) (tab : casting.Tabulator) (words_now : List ℕ) (tab_now : casting.Tabulator) : Type 0 where
  pub word : ℕ
  pub left : ℕ
  pub new : CastState
  pub note : CastNote
  pub row : CastRow t (next_from tab.state tab.left) word (slice_index words word) left new note
  pub put : words_now ≡ slice_set words word left
  pub is : tab_now ≡ after_step base t.claims tab new note
