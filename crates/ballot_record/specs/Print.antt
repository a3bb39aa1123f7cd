-- What a call that gave up leaves of a text that it was to go on with.
use Rattle.std.specs.Prelude.{◌≡◌, ℕ, List, ◌++◌}

-- the text goes on from what was there before
abbrev pub IsFrontOf : List ℕ → List ℕ → Type 0
IsFrontOf before now = (more : List ℕ) × (now ≡ before ++ more)
