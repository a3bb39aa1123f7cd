-- The election that a text describes: rules on the value that `serde_json` reads of the text.
--
-- In that value an object has each key once: of a key that stands twice in the text the last one counts.
use Rattle.std.specs.Prelude.{◌≡◌, ℕ, ◌-◌, ◌/◌, ◌%◌, ◌^◌, ◌<◌, ◌≤◌, ◌⊎◌, List, [], ◌∷◌, length, codes, All, Contains, sum_by, slice_index, if◌then◌else◌, nat_lt, Option, None, Some, IsSome, IsSomeAnd, IsUtf8, option_and_then}
use Rattle.std.specs.List.{AllZip}
use Rattle.std.specs.List.Sorted.{IsStrictlyIncreasing}
use Rattle.serde_json.specs.Data.{Data, Items, no_items, item}
use Rattle.serde_json.specs.Read.{read}
use Rattle.serde_json.specs.Find.{get, as_number, as_array, as_str, as_u64}
use Rattle.store_spec.specs.Election.{Contest, Election, IsContestUpTo, IsElection, most_choices}

-- ---- parts of a value

-- the value is an object with no key but these, or it is no object
abbrev pub HasNoKeyBut : List (List ℕ) → Data → Type 0
HasNoKeyBut keys d = (key : List ℕ) → IsSome (get key d) → Contains keys key

-- the number that a value is; `8.0`, `1e0` and `-0` are none
abbrev pub number_in : Data → Option ℕ
number_in d = option_and_then as_u64 (as_number d)

-- the number at a key
abbrev pub number_by_key : List ℕ → Data → Option ℕ
number_by_key key d = option_and_then number_in (get key d)

abbrev pub array_items : Items → List Data
array_items no_items = []
array_items (item d ds) = d ∷ array_items ds

-- the value is an array, whose items describe these, one by one
abbrev pub IsArrayOf : {A : Type 0} → (Data → A → Type 0) → List A → Data → Type 0
IsArrayOf R xs d = IsSomeAnd (as_array d) (λ items. AllZip R (array_items items) xs)

-- ---- the parts of an election

abbrev pub contest_keys : List (List ℕ)
contest_keys = codes "choices" ∷ codes "allowed" ∷ []

-- a contest of so many choices at most
pub record IsContestIn (most : ℕ) (d : Data) (contest : Contest) : Type 0 where
  pub no_other_key : HasNoKeyBut contest_keys d
  pub choices : number_by_key (codes "choices") d ≡ Some contest.choices
  pub allowed : number_by_key (codes "allowed") d ≡ Some contest.allowed
  pub valid : IsContestUpTo most contest

-- the set of some contests: bit k - 1 stands for contest k
abbrev pub contest_set : List ℕ → ℕ
contest_set numbers = sum_by (λ k. 2 ^ (k - 1)) numbers

-- a style over so many contests
pub record IsStyleIn (contests : ℕ) (d : Data) (style : ℕ) : Type 0 where
  pub numbers : List ℕ
  pub are : IsArrayOf (λ item k. number_in item ≡ Some k) numbers d
  pub some : 1 ≤ length numbers
  pub within : All (λ k. (1 ≤ k) × (k ≤ contests)) numbers
  pub ascending : IsStrictlyIncreasing numbers
  pub set : style ≡ contest_set numbers

-- `0` to `9` and `a` to `f`
abbrev pub IsSaltDigit : ℕ → Type 0
IsSaltDigit c = ((48 ≤ c) × (c ≤ 57)) ⊎ ((97 ≤ c) × (c ≤ 102))

abbrev pub salt_digit : ℕ → ℕ
salt_digit c = if nat_lt c 58 then c - 48 else c - 87

-- The sixteen digits of a number, the highest first: the digit at a place, from 0, stands for so many times 16 to the
-- power 15 - place.
pub record IsSaltText (text : List ℕ) (salt : ℕ) : Type 0 where
  pub size : length text ≡ 16
  pub digits : All IsSaltDigit text
  pub short : salt < 2 ^ 64
  pub each : (place : ℕ) → place < 16
      → salt / 16 ^ (15 - place) % 16 ≡ salt_digit (slice_index text place)

-- ---- an election

abbrev pub election_keys : List (List ℕ)
election_keys =
    codes "version" ∷ codes "contests" ∷ codes "styles" ∷ codes "limit" ∷ codes "bits" ∷ codes "salt" ∷ []

-- the number at the key `version`, or 1 where there is no such key
abbrev pub IsVersionIn : Data → ℕ → Type 0
IsVersionIn d version =
    (number_by_key (codes "version") d ≡ Some version) ⊎ ((get (codes "version") d ≡ None) × (version ≡ 1))

pub record IsElectionIn (d : Data) (e : Election) : Type 0 where
  pub no_other_key : HasNoKeyBut election_keys d
  pub version : IsVersionIn d e.version
  pub contests : IsSomeAnd (get (codes "contests") d)
      (IsArrayOf (IsContestIn (most_choices e)) e.contests)
  pub styles : IsSomeAnd (get (codes "styles") d)
      (IsArrayOf (IsStyleIn (length e.contests)) e.styles)
  pub limit : number_by_key (codes "limit") d ≡ Some e.limit
  pub bits : number_by_key (codes "bits") d ≡ Some e.bits
  pub salt : IsSomeAnd (option_and_then as_str (get (codes "salt") d))
      (λ text. IsSaltText text e.salt)
  pub valid : IsElection e

-- the bytes are text that describes the election
pub record Describes (bytes : List ℕ) (e : Election) : Type 0 where
  pub utf8 : IsUtf8 bytes
  pub value : IsSomeAnd (read bytes) (λ d. IsElectionIn d e)

-- the bytes describe an election
abbrev pub IsElectionText : List ℕ → Type 0
IsElectionText bytes = (e : Election) × Describes bytes e
