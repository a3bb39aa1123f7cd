-- The lines of the generated script, by what each does.
use Rattle.std.specs.Prelude.{ℕ, ◌/◌, List, [], ◌∷◌, ◌++◌, map, codes}
use Rattle.std.specs.List.{range_with_len}
use Rattle.script_lines.specs.Generated.{cast_line, marks_at, withdraw_line}
use Rattle.script_lines.specs.declared.part.Part.{Part}
use Rattle.script_lines.specs.declared.part.Part.TheVariants.{OpenCasting, Cast, OpenWithdrawing, Withdraw, Close, Checkpoint, Tally}
use Rattle.store_spec.specs.BallotLine.{choices_in, group_text}
use Rattle.store_spec.specs.Election.{Election}
use Rattle.store_spec.specs.ScriptLine.{open_text}
use Rattle.store_spec.specs.ScriptLine.Work.{Casting, Withdrawing}

-- the end, behind the numbers that are withdrawn
abbrev pub closing_parts : List Part
closing_parts = Close ∷ Checkpoint ∷ Tally ∷ []

-- what follows the ballots, where so many are withdrawn
abbrev pub withdrawing_parts : ℕ → List Part
withdrawing_parts tenths = Close ∷ OpenWithdrawing ∷ map Withdraw (range_with_len 1 tenths) ++ closing_parts

-- the whole script of so many ballots
abbrev pub casting_parts : ℕ → List Part
casting_parts ballots = OpenCasting ∷ map Cast (range_with_len 1 ballots) ++ withdrawing_parts (ballots / 10)

-- how a part is spelled
abbrev pub part_text : Election → ℕ → ℕ → Part → List ℕ
part_text e seed tabs OpenCasting = open_text Casting tabs
part_text e seed tabs (Cast i) = cast_line e seed tabs i
part_text e seed tabs OpenWithdrawing = open_text Withdrawing tabs
part_text e seed tabs (Withdraw j) = withdraw_line seed tabs j
part_text e seed tabs Close = codes "close"
part_text e seed tabs Checkpoint = codes "checkpoint"
part_text e seed tabs Tally = codes "tally"

-- what stands for contest k in the line of ballot i
abbrev pub generated_group : Election → ℕ → ℕ → List ℕ
generated_group e i k = group_text (choices_in e (marks_at e i k))

-- room for any line of the script, with its end
abbrev pub line_room : ℕ
line_room = 704
