-- What it is that a row of the table keeps the casting invariant.
use Rattle.std.specs.Prelude.{◌≡◌, ℕ, List, Some, slice_get, slice_index, slice_set}
use Rattle.store_spec.specs.CastInvariant.{CastInvariant, HasRoomFor}
use Rattle.store_spec.specs.CastStep.{CastNote, CastState, CastView, Table, cast_number, cast_view_after}

-- Whatever words and views the invariant holds of, it holds after a step from this state, on this word, which finds and
-- leaves these values, to the new state.
abbrev pub KeepsInvariant : Table → CastState → ℕ → ℕ → ℕ → CastState → CastNote → Type 0
KeepsInvariant t from word found left new note = (base words : List ℕ) (views : List CastView) (id : ℕ) (view : CastView)
    → HasRoomFor t base → CastInvariant t base words views
    → slice_get views id ≡ Some view → view.state ≡ from → slice_index words word ≡ found
    → CastInvariant t base (slice_set words word left) (slice_set views id (cast_view_after view (cast_number from) new note))
