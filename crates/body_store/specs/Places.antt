-- Numbers, each with the cell in which it stands.
use Rattle.std.specs.Prelude.{◌≡◌, ◌<◌, ℕ, List, All, length, slice_index}
use Rattle.body_store.specs.declared.lookup.Place.{Place}

abbrev pub AreAt : List ℕ → List Place → Type 0
AreAt cells places = All (λ place. (place.cell < length cells) × (slice_index cells place.cell ≡ place.number)) places
