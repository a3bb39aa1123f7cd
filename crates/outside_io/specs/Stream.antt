-- What a call on a source or a sink does to its bytes, where it tells them.
use Rattle.std.specs.Prelude.{◌≡◌, ℕ, ◌+◌, ◌≤◌, List, ◌++◌, length, take, Option}
use Rattle.std.specs.Option.{option_map}

-- the bytes that a source had left were these and then those that it has left now
abbrev pub Gives : Option (List ℕ) → List ℕ → Option (List ℕ) → Type 0
Gives before bytes now = before ≡ option_map (λ rest. bytes ++ rest) now

-- the bytes that a source has left are the last of those that it had
abbrev pub GivesFront : List ℕ → List ℕ → Type 0
GivesFront before left = (bytes : List ℕ) × (before ≡ bytes ++ left)

-- of the bytes that a source had left it gave so many
abbrev pub GivesExactly : ℕ → List ℕ → List ℕ → Type 0
GivesExactly count before left = length before ≡ length left + count

-- it gave no more than so many
abbrev pub GivesAtMost : ℕ → List ℕ → List ℕ → Type 0
GivesAtMost most before left = length before ≤ length left + most

-- a sink took these bytes behind those that it had taken
abbrev pub TakesAll : Option (List ℕ) → List ℕ → Option (List ℕ) → Type 0
TakesAll before bytes now = now ≡ option_map (λ front. front ++ bytes) before

-- a sink took some of the first of these bytes, or none
abbrev pub TakesSome : Option (List ℕ) → List ℕ → Option (List ℕ) → Type 0
TakesSome before bytes now = (count : ℕ) × TakesAll before (take count bytes) now
