-- A line of a replay: a word, and numbers behind it.
--
--     replay-line = "start" *( SP number )
--                 / "cast" SP tab
--                 / "withdraw" SP tab
--                 / "list" SP tab *( SP number )
--                 / "steps" *( SP tab )
--     number      = decimal, 1 to 18446744073709551615
--     tab         = decimal, 1 to 64
--
-- A decimal has no sign and no leading zero.
use Rattle.std.specs.Prelude.{◌≡◌, ⊤, ℕ, ◌<◌, ◌≤◌, List, [], ◌∷◌, ◌++◌, flat_map, length, All, codes, Option, Some, None}
use Rattle.std.specs.Fmt.{decimal}
use Rattle.schedule_replay.specs.declared.line.Word.{Word}
use Rattle.schedule_replay.specs.declared.line.Word.TheVariants as words
use Rattle.store_spec.specs.BallotLine.{space}
use Rattle.store_spec.specs.ScriptLine.{IsNumber, most_tabs}

-- a line by its parts
pub record ReplayLine : Type 0 where
  pub word : Word
  pub numbers : List ℕ

-- which numbers may stand behind a word
abbrev pub HasForm : Word → List ℕ → Type 0
HasForm words.Start numbers = ⊤
HasForm words.Cast [] = ⊥
HasForm words.Cast (tabs ∷ numbers) = (tabs ≤ most_tabs) × (numbers ≡ [])
HasForm words.Withdraw [] = ⊥
HasForm words.Withdraw (tabs ∷ numbers) = (tabs ≤ most_tabs) × (numbers ≡ [])
HasForm words.List [] = ⊥
HasForm words.List (tab ∷ numbers) = tab ≤ most_tabs
HasForm words.Steps tabs = All (λ tab. tab ≤ most_tabs) tabs

-- ---- how the parts are spelled

abbrev pub word_text : Word → List ℕ
word_text words.Start = codes "start"
word_text words.Cast = codes "cast"
word_text words.Withdraw = codes "withdraw"
word_text words.List = codes "list"
word_text words.Steps = codes "steps"

abbrev pub number_text : ℕ → List ℕ
number_text number = space ∷ decimal number

-- the bytes are numbers, with a space before each
pub record AreNumbers (bytes numbers : List ℕ) : Type 0 where
  pub each : All IsNumber numbers
  pub spelled : bytes ≡ flat_map number_text numbers

-- a number with a space before it was taken from the front, or there is none and so no number can be the first
abbrev pub TakesNumber : Option (ℕ × List ℕ) → List ℕ → Type 0
TakesNumber (Some x) bytes = IsNumber x.0 × (bytes ≡ number_text x.0 ++ x.1) × ((ns : List ℕ) → AreNumbers bytes ns → (others : List ℕ) × (ns ≡ x.0 ∷ others) × AreNumbers x.1 others)
TakesNumber None bytes = (ns : List ℕ) → 0 < length bytes → ¬ AreNumbers bytes ns

-- the bytes are in the grammar, and these are their parts
pub record ReadsAsReplay (bytes : List ℕ) (line : ReplayLine) : Type 0 where
  pub form : HasForm line.word line.numbers
  pub behind : List ℕ
  pub begun : bytes ≡ word_text line.word ++ behind
  pub numbers : AreNumbers behind line.numbers

-- the same of a line as it is taken: one that is too wide is not in the grammar
abbrev pub TakenAs : Option (List ℕ) → ReplayLine → Type 0
TakenAs None line = ⊥
TakenAs (Some bytes) line = ReadsAsReplay bytes line
