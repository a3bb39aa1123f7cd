-- What it is that a row of the table keeps the withdrawing invariant.
use Rattle.std.specs.Prelude.{◌≡◌, ℕ, List, Some, slice_get, slice_index, slice_set}
use Rattle.store_spec.specs.WithdrawInvariant.{WithdrawInvariant}
use Rattle.store_spec.specs.WithdrawStep.{WithdrawState, WithdrawNote, WithdrawView, withdraw_view_after}

-- Whatever words and views the invariant holds of, it holds after a step for a number from this state, on this word,
-- which finds and leaves these values, to the new state.
abbrev pub KeepsInvariant : (ℕ → ℕ) → List ℕ → ℕ → WithdrawState → ℕ → ℕ → ℕ → WithdrawState → WithdrawNote → Type 0
KeepsInvariant home base x from word found left new note = (words : List ℕ) (views : List WithdrawView) (id : ℕ) (view : WithdrawView)
    → WithdrawInvariant home base words views
    → slice_get views id ≡ Some view → view.state ≡ from → slice_index words word ≡ found
    → WithdrawInvariant home base (slice_set words word left) (slice_set views id (withdraw_view_after view x new note))
