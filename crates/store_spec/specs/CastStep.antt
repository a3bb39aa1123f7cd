-- One step of a tabulator that places ballot numbers in shared words: one load or one compare-and-swap of one word, and
-- the tabulator's own state. This protocol is this store's own.
use Rattle.std.specs.Prelude.{◌≡◌, ◌≢◌, ℕ, ◌+◌, ◌-◌, ◌%◌, ◌<◌, List, [], ◌∷◌, ◌++◌, Contains, Some, slice_get, slice_index, slice_set}
use Rattle.store_spec.specs.Act.{Act}
use Rattle.store_spec.specs.Act.Act.{Nothing, Load, Trade}

-- The shared words of a casting phase: so many cells, in which a number stands at its home or after it, and behind them
-- so many claim words, in one of which a number is claimed before it is placed.
pub record Table : Type 0 where
  pub home : ℕ → ℕ
  pub cells : ℕ
  pub claims : ℕ

-- The claim words of a number are tried from one of its own on, round the array.
abbrev pub claim_place : ℕ → ℕ → ℕ → ℕ
claim_place number tries count = (number % count + tries) % count

-- the shared word that is tried next
abbrev pub claim_word : Table → ℕ → ℕ → ℕ
claim_word t number tries = t.cells + claim_place number tries t.claims

-- What a tabulator is about: nothing; a number for which so many claim words were tried in vain; a number in hand, and
-- the cell at which it looks; or a number in hand that is to take a cell in place of the lower word seen there.
pub data CastState : Type 0 where
  Rest : CastState
  Probing : (number tries : ℕ) → CastState
  Carrying : (number place : ℕ) → CastState
  Ready : (number place seen : ℕ) → CastState

-- what a step tells
pub data CastNote : Type 0 where
  Quiet : CastNote
  Claimed : CastNote
  Taken : CastNote
  Full : CastNote
  Placed : CastNote

-- what the next step does
abbrev pub cast_act : Table → CastState → Act
cast_act t Rest = Nothing
cast_act t (Probing x k) = Trade (claim_word t x k) 0 x
cast_act t (Carrying v i) = Load i
cast_act t (Ready v i s) = Trade i s v

-- The table of steps. The lines of a row: its name and its conditions; the state, the word on which it acts, what it
-- finds there and what it leaves; the new state and the note.
pub data CastRow (t : Table)
    : (state : CastState) (word found left : ℕ) (new : CastState) (note : CastNote) → Type 0 where
  claim_won : (x k : ℕ)
      → CastRow t (Probing x k) (claim_word t x k) 0 x
      (Carrying x (t.home x)) Claimed
  claim_met : (x k : ℕ)
      → CastRow t (Probing x k) (claim_word t x k) x x
      Rest Taken
  claim_passed : (x k f : ℕ) → f ≢ 0 → f ≢ x → k + 1 < t.claims
      → CastRow t (Probing x k) (claim_word t x k) f f
      (Probing x (k + 1)) Quiet
  claims_full : (x k f : ℕ) → f ≢ 0 → f ≢ x → k + 1 ≡ t.claims
      → CastRow t (Probing x k) (claim_word t x k) f f
      Rest Full
  look_passes : (v i f : ℕ) → v < f
      → CastRow t (Carrying v i) i f f
      (Carrying v (i + 1)) Quiet
  look_ready : (v i f : ℕ) → f < v
      → CastRow t (Carrying v i) i f f
      (Ready v i f) Quiet
  takes_empty : (v i : ℕ)
      → CastRow t (Ready v i 0) i 0 v
      Rest Placed
  displaces : (v i s : ℕ) → s ≢ 0
      → CastRow t (Ready v i s) i s v
      (Carrying s (i + 1)) Quiet
  lost_passes : (v i s f : ℕ) → f ≢ s → v < f
      → CastRow t (Ready v i s) i f f
      (Carrying v (i + 1)) Quiet
  lost_ready : (v i s f : ℕ) → f ≢ s → f < v
      → CastRow t (Ready v i s) i f f
      (Ready v i f) Quiet

-- What is kept of a tabulator: its state, and the numbers that it has accepted, has found taken, and has met full claim
-- words for.
pub record CastView : Type 0 where
  pub state : CastState
  pub accepted : List ℕ
  pub taken : List ℕ
  pub full : List ℕ

-- a tabulator that is new, or whose numbers were handed to another
abbrev pub fresh_cast_view : CastView
fresh_cast_view = record { state = Rest; accepted = []; taken = []; full = [] }

-- the view of a tabulator that takes in another, both at rest: its lists and then those of the other
abbrev pub joined_cast_view : CastView → CastView → CastView
joined_cast_view view other = record {
  state = Rest;
  accepted = view.accepted ++ other.accepted;
  taken = view.taken ++ other.taken;
  full = view.full ++ other.full;
}

-- the number that a state is about, and 0 at rest
abbrev pub cast_number : CastState → ℕ
cast_number Rest = 0
cast_number (Probing x k) = x
cast_number (Carrying v i) = v
cast_number (Ready v i s) = v

-- the view after a step: the new state, and the number in the list that the note names
abbrev pub cast_view_after : CastView → ℕ → CastState → CastNote → CastView
cast_view_after view number new Quiet = record view { state = new }
cast_view_after view number new Claimed = record view { state = new; accepted = view.accepted ++ number ∷ [] }
cast_view_after view number new Taken = record view { state = new; taken = view.taken ++ number ∷ [] }
cast_view_after view number new Full = record view { state = new; full = view.full ++ number ∷ [] }
cast_view_after view number new Placed = record view { state = new }

-- A number that may be taken up: it is not 0 and not of the base, and there are claim words.
pub record MayBegin (t : Table) (base : List ℕ) (x : ℕ) : Type 0 where
  pub some : x ≢ 0
  pub not_held : ¬ Contains base x
  pub claims : 0 < t.claims

-- A tabulator at rest begins with a number, for which no claim word was tried; any other goes on from its state.
abbrev pub GoesFrom : Table → List ℕ → CastState → CastState → Type 0
GoesFrom t base Rest from = (x : ℕ) × MayBegin t base x × (from ≡ Probing x 0)
GoesFrom t base (Probing x k) from = from ≡ Probing x k
GoesFrom t base (Carrying v i) from = from ≡ Carrying v i
GoesFrom t base (Ready v i s) from = from ≡ Ready v i s

-- One step: one row of the table, on one of the words and in the view at `id`. All else stays.
pub record CastStep (t : Table) (base words : List ℕ) (views : List CastView) (id : ℕ) (now : List ℕ)
    (views_now : List CastView) : Type 0 where
  pub view : CastView
  pub acts : slice_get views id ≡ Some view
  pub from : CastState
  pub goes : GoesFrom t base view.state from
  pub word : ℕ
  pub left : ℕ
  pub new : CastState
  pub note : CastNote
  pub row : CastRow t from word (slice_index words word) left new note
  pub words_now : now ≡ slice_set words word left
  pub view_now : views_now ≡ slice_set views id (cast_view_after view (cast_number from) new note)

-- What is left of the steps for a number: claim words to try, cells to look at, and the room between the word seen and
-- the number in hand. Of these an earlier one counts more.
abbrev pub cast_measure : Table → CastState → List ℕ
cast_measure t Rest = 0 ∷ 0 ∷ 0 ∷ []
cast_measure t (Probing x k) = (t.claims - k) ∷ 0 ∷ 0 ∷ []
cast_measure t (Carrying v i) = 0 ∷ (t.cells - i) ∷ (v + 1) ∷ []
cast_measure t (Ready v i s) = 0 ∷ (t.cells - i) ∷ (v - s) ∷ []
