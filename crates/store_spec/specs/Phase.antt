-- What a phase makes of the numbers in its lists, in whatever order its steps came.
use Rattle.std.specs.Prelude.{◌≡◌, ◌≢◌, ℕ, Bool, true, false, List, ◌++◌, length, map, flat_map, filter, All, AllPairs, Contains, IsPermutation}

-- what a number met in a casting phase: it is held already; it is accepted here; it was accepted before, or from another
-- list; there was no room for it
pub data Met : Type 0 where
  Held : Met
  Accepted : Met
  Taken : Met
  Full : Met

-- a number of a list, and what it met
pub record Answer : Type 0 where
  pub number : ℕ
  pub met : Met

abbrev pub is_met_accepted : Met → Bool
is_met_accepted Held = false
is_met_accepted Accepted = true
is_met_accepted Taken = false
is_met_accepted Full = false

-- the numbers of a list that met something of a kind
abbrev pub numbers_that : (Met → Bool) → List Answer → List ℕ
numbers_that is_such answers = map (λ a. a.number) (filter (λ a. is_such a.met) answers)

-- the numbers that were accepted, list by list
abbrev pub numbers_accepted : List (List Answer) → List ℕ
numbers_accepted lists = flat_map (numbers_that is_met_accepted) lists

-- What an answer says of its number: it is of the base; it is not, and is in the set after the phase; or it is not in
-- that set, which has reached the limit.
abbrev pub IsRightlyMet : ℕ → List ℕ → List ℕ → ℕ → Met → Type 0
IsRightlyMet limit base after x Held = Contains base x
IsRightlyMet limit base after x Accepted = (¬ Contains base x) × Contains after x
IsRightlyMet limit base after x Taken = (¬ Contains base x) × Contains after x
IsRightlyMet limit base after x Full = (¬ Contains after x) × (length after ≡ limit)

-- One answer may stand before another of its list: what is accepted was not answered before, and nothing is accepted
-- once there was no room.
abbrev pub MayBeMetBefore : Answer → Answer → Type 0
MayBeMetBefore earlier later = later.met ≡ Accepted → (earlier.number ≢ later.number) × (earlier.met ≢ Full)

-- The outcome of a casting phase from the set `base` to the set `after`, each listed in any order: the set gains what is
-- accepted and nothing else, each number once, and every answer is right.
pub record CastOutcome (limit : ℕ) (base : List ℕ) (lists : List (List Answer)) (after : List ℕ) : Type 0 where
  pub gains : IsPermutation (base ++ numbers_accepted lists) after
  pub distinct : AllPairs (λ a b. a ≢ b) after
  pub answers : All (All (λ a. IsRightlyMet limit base after a.number a.met)) lists
  pub in_order : All (AllPairs MayBeMetBefore) lists
