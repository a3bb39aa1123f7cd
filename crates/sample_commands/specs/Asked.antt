-- The words behind `sample` and `compare`: what dice gave, and how many ballots are drawn.
--
--     dice  = 1 to 64 bytes, each a digit from 0 to 9
--     count = decimal, 1 to 32768
--
-- A decimal has no sign and no leading zero.
use Rattle.std.specs.Prelude.{◌≡◌, ℕ, ◌-◌, ◌≤◌, List, [], ◌∷◌, ◌++◌, All, length, replicate, take}
use Rattle.std.specs.Fmt.{decimal}
use Rattle.sample_commands.specs.declared.asked.Asked.{Asked}
use Rattle.store_spec.specs.Election.{most_ballots}

abbrev pub most_dice : ℕ
most_dice = 64

pub record IsDice (word : List ℕ) : Type 0 where
  pub some : 1 ≤ length word
  pub few : length word ≤ most_dice
  pub digits : All (λ byte. (48 ≤ byte) × (byte ≤ 57)) word

-- the word spells this count
pub record IsCountWord (word : List ℕ) (count : ℕ) : Type 0 where
  pub some : 1 ≤ count
  pub few : count ≤ most_ballots
  pub spelled : word ≡ decimal count

abbrev pub dice_of : Asked → List ℕ
dice_of asked = take asked.rolled asked.digits

-- The words ask for this sample: they are its dice and its count. Zeros stand behind the dice.
pub record IsAsked (words : List (List ℕ)) (asked : Asked) : Type 0 where
  pub dice : List ℕ
  pub is_dice : IsDice dice
  pub digits : asked.digits ≡ dice ++ replicate (most_dice - length dice) 0
  pub rolled : asked.rolled ≡ length dice
  pub count : List ℕ
  pub is_count : IsCountWord count asked.count
  pub words_are : words ≡ dice ∷ count ∷ []
