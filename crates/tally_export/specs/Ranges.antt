-- The ballots in a range of the cells of a store.
use Rattle.std.specs.Prelude.{ℕ, ◌-◌, List, drop, take}
use Rattle.body_store.specs.Contents.{Contents}
use Rattle.body_store.specs.Held.{held_in}
use Rattle.store_spec.specs.Ballot.{Ballot}
use Rattle.store_spec.specs.Image.{cells_of}

-- those from one cell on, up to another
abbrev pub ballots_in : Contents → ℕ → ℕ → List Ballot
ballots_in store from end =
    held_in store.ballots (take (end - from) (drop from (cells_of store.election store.ballots)))
