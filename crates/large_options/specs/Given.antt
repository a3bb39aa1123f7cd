-- One option: its name, and the values that it takes.
use Rattle.std.specs.Prelude.{◌≡◌, ◌≢◌, ℕ, ◌≤◌, List, Option, Some, codes}
use Rattle.std.specs.Fmt.{decimal}
use Rattle.large_options.specs.declared.name.Name.{Name}
use Rattle.large_options.specs.declared.name.Name.TheVariants.{Seed, Count, Tabs}
use Rattle.store_spec.specs.Election.{most_ballots}
use Rattle.store_spec.specs.ScriptLine.{most_tabs}

-- the name without its dashes
abbrev pub id_of : Name → List ℕ
id_of Seed = codes "seed"
id_of Count = codes "count"
id_of Tabs = codes "tabs"

abbrev pub text_of : Name → List ℕ
text_of Seed = codes "--seed"
text_of Count = codes "--count"
text_of Tabs = codes "--tabs"

abbrev pub limit_of : Name → ℕ
limit_of Seed = 4294967295
limit_of Count = most_ballots
limit_of Tabs = most_tabs

-- the text spells this value of the option
abbrev pub HasValue : Name → List ℕ → ℕ → Type 0
HasValue name text n = (1 ≤ n) × (n ≤ limit_of name) × (text ≡ decimal n)

-- it spells none
abbrev pub HasNoValue : Name → List ℕ → Type 0
HasNoValue name text = (n : ℕ) → ¬ HasValue name text n

-- a word and the next one are this option
abbrev pub IsGiven : List ℕ → List ℕ → Name → Type 0
IsGiven word next name = (word ≡ text_of name) × (n : ℕ) × HasValue name next n

-- they are none
abbrev pub IsNotGiven : List ℕ → List ℕ → Type 0
IsNotGiven word next = (name : Name) → ¬ IsGiven word next name

-- no name stands twice
abbrev pub AreDifferent : Name → Name → Name → Type 0
AreDifferent a b c = (a ≢ b) × (a ≢ c) × (b ≢ c)

-- all three are names, and no name stands twice
abbrev pub AllDiffer : Option Name → Option Name → Option Name → Type 0
AllDiffer (Some a) (Some b) (Some c) = AreDifferent a b c
AllDiffer first second third = ⊥
