-- The words behind `large`: three options in any order, each with its value in the next word.
--
--     options = the words "--seed" S, "--count" C and "--tabs" T, each pair once
--     S       = decimal, 1 to 4294967295
--     C       = decimal, 1 to 32768
--     T       = decimal, 1 to 64
--
-- A decimal has no sign and no leading zero.
use Rattle.std.specs.Prelude.{◌≡◌, ℕ, ◌^◌, ◌<◌, ◌≤◌, List, [], ◌∷◌, codes}
use Rattle.std.specs.Fmt.{decimal}
use Rattle.std.specs.List.{flat_map}
use Rattle.std.specs.List.Sorted.{IsPermutation}
use Rattle.store_spec.specs.Election.{most_ballots}
use Rattle.store_spec.specs.ScriptLine.{IsTab}

abbrev pub IsSeed : ℕ → Type 0
IsSeed seed = (1 ≤ seed) × (seed < 2 ^ 32)

-- how many ballots a run may ask for
abbrev pub IsCount : ℕ → Type 0
IsCount count = (1 ≤ count) × (count ≤ most_ballots)

-- an option: its name, and its value
abbrev pub Choice : Type 0
Choice = List ℕ × ℕ

-- the name, and behind it the value
abbrev pub choice_words : Choice → List (List ℕ)
choice_words choice = choice.0 ∷ decimal choice.1 ∷ []

abbrev pub choices : ℕ → ℕ → ℕ → List Choice
choices seed count tabs = (codes "--seed", seed) ∷ (codes "--count", count) ∷ (codes "--tabs", tabs) ∷ []

-- the words are the options of this seed, this count and these tabulators, in some order
pub record IsOptions (words : List (List ℕ)) (seed count tabs : ℕ) : Type 0 where
  pub is_seed : IsSeed seed
  pub is_count : IsCount count
  pub is_tabs : IsTab tabs
  pub order : List Choice
  pub complete : IsPermutation (choices seed count tabs) order
  pub spelled : words ≡ flat_map choice_words order

-- the words are options
abbrev pub AreOptions : List (List ℕ) → Type 0
AreOptions words = (seed count tabs : ℕ) × IsOptions words seed count tabs
