-- The script line: one thing that a session is told.
--
--     script-line = "open cast" SP tab / "open withdraw" SP tab / "open find" SP tab
--                 / "cast" SP tab SP record-line
--                 / "withdraw" SP tab SP number
--                 / "find" SP tab SP number
--                 / "close"
--                 / "checkpoint"
--                 / "tally"
--                 / "export"
--     tab         = decimal, 1 to 64
--     number      = decimal, 1 to 18446744073709551615
--
-- A decimal has no sign and no leading zero.
use Rattle.std.specs.Prelude.{◌≡◌, ℕ, ◌^◌, ◌<◌, ◌≤◌, List, ◌∷◌, ◌++◌, codes}
use Rattle.std.specs.Fmt.{decimal}
use Rattle.store_spec.specs.Ballot.{Ballot}
use Rattle.store_spec.specs.BallotLine.{IsLineOf, IsRecordLine, Spells, space}
use Rattle.store_spec.specs.Election.{Election}

-- what a phase does that is not closed
pub data Work : Type 0 where
  Casting : Work
  Withdrawing : Work
  Finding : Work

-- What a line says. One that casts has its valid ballot, or a record line that spells none.
pub data ScriptLine : Type 0 where
  Open : Work → ℕ → ScriptLine
  Cast : ℕ → Ballot → ScriptLine
  CastInvalid : ℕ → ScriptLine
  Withdraw : ℕ → ℕ → ScriptLine
  Find : ℕ → ℕ → ScriptLine
  Close : ScriptLine
  Checkpoint : ScriptLine
  Tally : ScriptLine
  Export : ScriptLine

-- the most tabulators of a phase
abbrev pub most_tabs : ℕ
most_tabs = 64

abbrev pub IsTab : ℕ → Type 0
IsTab tab = (1 ≤ tab) × (tab ≤ most_tabs)

abbrev pub IsNumber : ℕ → Type 0
IsNumber number = (1 ≤ number) × (number < 2 ^ 64)

-- ---- how it is spelled

abbrev pub work_text : Work → List ℕ
work_text Casting = codes "cast"
work_text Withdrawing = codes "withdraw"
work_text Finding = codes "find"

abbrev pub open_text : Work → ℕ → List ℕ
open_text work tabs = codes "open " ++ work_text work ++ space ∷ decimal tabs

-- a word, whose list it is for, and what stands behind
abbrev pub item_text : Work → ℕ → List ℕ → List ℕ
item_text work tab rest = work_text work ++ space ∷ (decimal tab ++ space ∷ rest)

-- the bytes are in the grammar, and say this under the election
abbrev pub Says : Election → List ℕ → ScriptLine → Type 0
Says e bytes (Open work tabs) = IsTab tabs × (bytes ≡ open_text work tabs)
Says e bytes (Cast tab b) = IsTab tab × (rest : List ℕ) × (bytes ≡ item_text Casting tab rest) × Spells e rest b
Says e bytes (CastInvalid tab) =
    IsTab tab × (rest : List ℕ) × (bytes ≡ item_text Casting tab rest) × IsRecordLine e rest × ¬ IsLineOf e rest
Says e bytes (Withdraw tab number) =
    IsTab tab × IsNumber number × (bytes ≡ item_text Withdrawing tab (decimal number))
Says e bytes (Find tab number) = IsTab tab × IsNumber number × (bytes ≡ item_text Finding tab (decimal number))
Says e bytes Close = bytes ≡ codes "close"
Says e bytes Checkpoint = bytes ≡ codes "checkpoint"
Says e bytes Tally = bytes ≡ codes "tally"
Says e bytes Export = bytes ≡ codes "export"

-- the bytes are not in the grammar
abbrev pub IsMalformed : Election → List ℕ → Type 0
IsMalformed e bytes = (line : ScriptLine) → ¬ Says e bytes line
