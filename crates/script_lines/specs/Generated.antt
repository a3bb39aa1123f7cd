-- The script of a large run, made from a seed: ballots are cast, every tenth of them is withdrawn, and the rest goes to
-- the medium and is counted. `count` is how many ballots are asked for, and `tabs` how many tabulators cast them.
use Rattle.std.specs.Prelude.{ℕ, ◌+◌, ◌*◌, ◌/◌, ◌%◌, ◌^◌, ◌==◌, if◌then◌else◌, List, [], ◌∷◌, ◌++◌, length, map, min, codes}
use Rattle.std.specs.Fmt.{decimal}
use Rattle.std.specs.List.{range_with_len}
use Rattle.store_spec.specs.Ballot.{Ballot, MARK_SETS}
use Rattle.store_spec.specs.BallotLine.{record_line}
use Rattle.store_spec.specs.Election.{Election, choices_of, is_on_style}
use Rattle.store_spec.specs.Report.{lines_text}
use Rattle.store_spec.specs.ScriptLine.{ScriptLine, item_text, open_text}
use Rattle.store_spec.specs.ScriptLine.ScriptLine.{Open, Cast, Withdraw, Close, Checkpoint, Tally}
use Rattle.store_spec.specs.ScriptLine.Work.{Casting, Withdrawing}

-- an odd number, so that no two ballots have one number
abbrev pub spread : ℕ
spread = 0xD1342543DE82EF95

-- the number, the style, and the mark set in contest k of ballot i, counted from 1
abbrev pub generated_number : ℕ → ℕ → ℕ
generated_number seed i = (seed + i) * spread % 2 ^ 64

abbrev pub style_at : Election → ℕ → ℕ
style_at e i = 1 + i % length e.styles

-- every seventh ballot has no mark, and any other one choice in each contest of its style
abbrev pub marks_at : Election → ℕ → ℕ → ℕ
marks_at e i k =
    if is_on_style e (style_at e i) k then (if i % 7 == 0 then 0 else 2 ^ ((i + k) % choices_of e k)) else 0

abbrev pub generated_ballot : Election → ℕ → ℕ → Ballot
generated_ballot e seed i = record {
  number = generated_number seed i;
  style = style_at e i;
  marks = map (marks_at e i) (range_with_len 1 MARK_SETS);
}

-- how many ballots there are: not more than the store may hold
abbrev pub ballot_count : Election → ℕ → ℕ
ballot_count e count = min count e.limit

-- ---- the script

-- the ballots that are cast, and the numbers that are withdrawn
abbrev pub cast_ballots : Election → ℕ → ℕ → List Ballot
cast_ballots e seed count = map (generated_ballot e seed) (range_with_len 1 (ballot_count e count))

abbrev pub withdrawn_numbers : Election → ℕ → ℕ → List ℕ
withdrawn_numbers e seed count = map (λ j. generated_number seed (10 * j)) (range_with_len 1 (ballot_count e count / 10))

-- the lines that cast ballot i, and that withdraw the j-th tenth one
abbrev pub cast_line : Election → ℕ → ℕ → ℕ → List ℕ
cast_line e seed tabs i = item_text Casting (1 + i % tabs) (record_line e (generated_ballot e seed i))

abbrev pub withdraw_line : ℕ → ℕ → ℕ → List ℕ
withdraw_line seed tabs j = item_text Withdrawing (1 + j % tabs) (decimal (generated_number seed (10 * j)))

abbrev pub generated : Election → ℕ → ℕ → ℕ → List (List ℕ)
generated e seed count tabs =
    open_text Casting tabs ∷ map (cast_line e seed tabs) (range_with_len 1 (ballot_count e count))
    ++ codes "close" ∷ open_text Withdrawing tabs
    ∷ map (withdraw_line seed tabs) (range_with_len 1 (ballot_count e count / 10))
    ++ codes "close" ∷ codes "checkpoint" ∷ codes "tally" ∷ []

abbrev pub generated_text : Election → ℕ → ℕ → ℕ → List ℕ
generated_text e seed count tabs = lines_text (generated e seed count tabs)

-- ---- what the lines say

abbrev pub cast_said : Election → ℕ → ℕ → ℕ → ScriptLine
cast_said e seed tabs i = Cast (1 + i % tabs) (generated_ballot e seed i)

abbrev pub withdraw_said : ℕ → ℕ → ℕ → ScriptLine
withdraw_said seed tabs j = Withdraw (1 + j % tabs) (generated_number seed (10 * j))

abbrev pub generated_script : Election → ℕ → ℕ → ℕ → List ScriptLine
generated_script e seed count tabs =
    Open Casting tabs ∷ map (cast_said e seed tabs) (range_with_len 1 (ballot_count e count))
    ++ Close ∷ Open Withdrawing tabs
    ∷ map (withdraw_said seed tabs) (range_with_len 1 (ballot_count e count / 10))
    ++ Close ∷ Checkpoint ∷ Tally ∷ []
