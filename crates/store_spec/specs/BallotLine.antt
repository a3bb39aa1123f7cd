-- The record line: a ballot as a line of text.
--
--     record-line = number SP style SP marks
--     number      = decimal, 1 to 18446744073709551615
--     style       = decimal, 1 to 255
--     marks       = group, then up to 15 times in version 1, up to 23 times in version 2: "/" group
--     group       = "-"  or  choice, then further "," choice
--     choice      = decimal, 1 to 32 in version 1, 1 to 64 in version 2, strictly ascending within a group
--
-- A decimal has no sign and no leading zero. The version is that of the election.
use Rattle.std.specs.Prelude.{◌≡◌, ℕ, ◌-◌, ◌^◌, ◌<◌, ◌≤◌, ◌==◌, List, [], ◌∷◌, ◌++◌, length, map, sum_by, take, filter, replicate, All}
use Rattle.std.specs.Int.{bit_at}
use Rattle.std.specs.List.{join_with_byte, range_with_len}
use Rattle.std.specs.List.Sorted.{IsStrictlyIncreasing}
use Rattle.std.specs.Fmt.{decimal}
use Rattle.store_spec.specs.Ballot.{Ballot, IsValid, MARK_SETS}
use Rattle.store_spec.specs.Election.{Election, in_version, most_choices, most_contests, most_styles}

-- a line by its parts: the choices that are marked in each group
pub record RecordLine : Type 0 where
  pub number : ℕ
  pub style : ℕ
  pub groups : List (List ℕ)

-- what may stand between two slashes
pub record IsGroup (e : Election) (choices : List ℕ) : Type 0 where
  pub within : All (λ c. (1 ≤ c) × (c ≤ most_choices e)) choices
  pub ascending : IsStrictlyIncreasing choices

pub record IsLine (e : Election) (line : RecordLine) : Type 0 where
  pub some_number : 1 ≤ line.number
  pub short_number : line.number < 2 ^ 64
  pub some_style : 1 ≤ line.style
  pub short_style : line.style ≤ most_styles
  pub some_group : 1 ≤ length line.groups
  pub few_groups : length line.groups ≤ most_contests e
  pub each_group : All (IsGroup e) line.groups

-- ---- how the parts are spelled

abbrev pub dash : ℕ
dash = 45

abbrev pub comma : ℕ
comma = 44

abbrev pub slash : ℕ
slash = 47

abbrev pub space : ℕ
space = 32

abbrev pub group_text : List ℕ → List ℕ
group_text [] = dash ∷ []
group_text (choice ∷ choices) = join_with_byte comma (map decimal (choice ∷ choices))

abbrev pub line_text : RecordLine → List ℕ
line_text line =
    decimal line.number ++ space ∷ decimal line.style ++ space
    ∷ join_with_byte slash (map group_text line.groups)

-- the bytes are in the grammar, and these are their parts
pub record ReadsAs (e : Election) (bytes : List ℕ) (line : RecordLine) : Type 0 where
  pub parts : IsLine e line
  pub spelled : bytes ≡ line_text line

-- the bytes are in the grammar
abbrev pub IsRecordLine : Election → List ℕ → Type 0
IsRecordLine e bytes = (line : RecordLine) × ReadsAs e bytes line

-- the most bytes of a record line
abbrev pub longest_line : Election → ℕ
longest_line e = in_version e.version 1416 4416

-- ---- the ballot of a line

-- the mark set of some choices
abbrev pub mark_set : List ℕ → ℕ
mark_set choices = sum_by (λ c. 2 ^ (c - 1)) choices

-- the ballot that a line stands for, valid or not
abbrev pub ballot_of_line : RecordLine → Ballot
ballot_of_line line = record {
  number = line.number;
  style = line.style;
  marks = map mark_set line.groups ++ replicate (MARK_SETS - length line.groups) 0;
}

-- the bytes are a line of this election for this ballot: a group for each contest, and the ballot is valid
pub record Spells (e : Election) (bytes : List ℕ) (b : Ballot) : Type 0 where
  pub line : RecordLine
  pub reads : ReadsAs e bytes line
  pub a_group_each : length line.groups ≡ length e.contests
  pub is : b ≡ ballot_of_line line
  pub valid : IsValid e b

-- the bytes are a line of this election, for some ballot
abbrev pub IsLineOf : Election → List ℕ → Type 0
IsLineOf e bytes = (b : Ballot) × Spells e bytes b

-- ---- the line of a ballot

-- the choices in a mark set
unfoldable pub choices_in : Election → ℕ → List ℕ
choices_in e set =
    filter (λ choice. bit_at set (choice - 1) == 1) (range_with_len 1 (most_choices e))

abbrev pub line_of_ballot : Election → Ballot → RecordLine
line_of_ballot e b = record {
  number = b.number;
  style = b.style;
  groups = map (choices_in e) (take (length e.contests) b.marks);
}

abbrev pub record_line : Election → Ballot → List ℕ
record_line e b = line_text (line_of_ballot e b)
