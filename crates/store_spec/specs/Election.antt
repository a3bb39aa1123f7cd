-- An election as its store sees it: contests, styles, and how the store is laid out.
--
-- On the version of an election depend the most contests and the most choices (`most_contests`, `most_choices`), and so
-- which elections and record lines there are; the width of a mark set in a cell (`set_width`), and so the sizes of a
-- cell, a bank and a medium; and the two bytes of the version in the header. Nothing else does.
use Rattle.std.specs.Prelude.{◌≢◌, ℕ, ◌+◌, ◌-◌, ◌*◌, ◌^◌, ◌<◌, ◌≤◌, Bool, false, if◌then◌else◌, ◌==◌, List, [], ◌∷◌, length, All, slice_get, slice_index}
use Rattle.std.specs.Int.{bit_at}
use Rattle.std.specs.Option.{option_map_or}

-- how many choices a contest offers, and how many of them a voter may mark
pub record Contest : Type 0 where
  pub choices : ℕ
  pub allowed : ℕ

-- Contests and styles are numbered from 1. A style is a set of contests: bit k - 1 stands for contest k.
-- The store holds up to `limit` ballots, and has 2 ^ bits homes, which the salt spreads.
pub record Election : Type 0 where
  pub version : ℕ
  pub contests : List Contest
  pub styles : List ℕ
  pub limit : ℕ
  pub bits : ℕ
  pub salt : ℕ

-- ---- what goes with its version

-- the first value in version 1, and the second in version 2
unfoldable pub in_version : ℕ → ℕ → ℕ → ℕ
in_version version first second = if version == 1 then first else second

abbrev pub most_contests : Election → ℕ
most_contests e = in_version e.version 16 24

abbrev pub most_choices : Election → ℕ
most_choices e = in_version e.version 32 64

-- the bytes of a mark set in a cell
abbrev pub set_width : Election → ℕ
set_width e = in_version e.version 4 8

-- ---- limits of every version

abbrev pub most_styles : ℕ
most_styles = 255

abbrev pub most_ballots : ℕ
most_ballots = 32768

abbrev pub most_bits : ℕ
most_bits = 16

-- ---- what is a valid election

-- a contest of so many choices at most
pub record IsContestUpTo (most : ℕ) (contest : Contest) : Type 0 where
  pub some_choice : 1 ≤ contest.choices
  pub few_choices : contest.choices ≤ most
  pub some_mark : 1 ≤ contest.allowed
  pub few_marks : contest.allowed ≤ contest.choices

abbrev pub IsContest : Election → Contest → Type 0
IsContest e contest = IsContestUpTo (most_choices e) contest

-- a set of some of so many contests that is not empty
pub record IsStyle (contests style : ℕ) : Type 0 where
  pub some_contest : 1 ≤ style
  pub of_these : style < 2 ^ contests

pub record IsElection (e : Election) : Type 0 where
  pub some_version : 1 ≤ e.version
  pub known_version : e.version ≤ 2
  pub some_contest : 1 ≤ length e.contests
  pub few_contests : length e.contests ≤ most_contests e
  pub each_contest : All (IsContest e) e.contests
  pub some_style : 1 ≤ length e.styles
  pub few_styles : length e.styles ≤ most_styles
  pub each_style : All (IsStyle (length e.contests)) e.styles
  pub some_ballot : 1 ≤ e.limit
  pub few_ballots : e.limit ≤ most_ballots
  pub few_bits : e.bits ≤ most_bits
  pub short_salt : e.salt < 2 ^ 64

-- ---- the same election in version 1

abbrev pub as_version_one : Election → Election
as_version_one e = record {
  version = 1;
  contests = e.contests;
  styles = e.styles;
  limit = e.limit;
  bits = e.bits;
  salt = e.salt;
}

-- it is not in version 1, and its contests are within the limits of version 1
pub record HasVersionOne (e : Election) : Type 0 where
  pub later : e.version ≢ 1
  pub few_contests : length e.contests ≤ most_contests (as_version_one e)
  pub few_choices : All (λ contest. contest.choices ≤ most_choices (as_version_one e)) e.contests

-- ---- what its numbers say

-- how many choices contest k offers: none where there is no such contest
abbrev pub choices_of : Election → ℕ → ℕ
choices_of e k =
    if k == 0 then 0
    else option_map_or (λ contest. contest.choices) (slice_get e.contests (k - 1)) 0

-- whether contest k is on style s: not where the election lacks one of them
abbrev pub is_on_style : Election → ℕ → ℕ → Bool
is_on_style e s k =
    if s == 0 then false
    else if k == 0 then false
    else bit_at (slice_index e.styles (s - 1)) (k - 1) == 1

-- how many choices a ballot of style s has in contest k: none where the contest is not on the style
abbrev pub choices_on : Election → ℕ → ℕ → ℕ
choices_on e s k = if is_on_style e s k then choices_of e k else 0

-- ---- sizes, in cells and in bytes

abbrev pub cell_count : Election → ℕ
cell_count e = 2 ^ e.bits + e.limit

-- a number of eight bytes and a style of one, which stand in front
abbrev pub front_size : ℕ
front_size = 9

-- a number, a style, and a mark set for each contest
unfoldable pub cell_size : Election → ℕ
cell_size e = front_size + set_width e * length e.contests

unfoldable pub header_size : ℕ
header_size = 32

-- a header and the cells
abbrev pub bank_size : Election → ℕ
bank_size e = header_size + cell_count e * cell_size e

-- the most cells
abbrev pub most_cells : ℕ
most_cells = 2 ^ most_bits + most_ballots

-- two banks, and a gate byte for each
abbrev pub medium_size : Election → ℕ
medium_size e = 2 * bank_size e + 2

-- ---- the example election of the documents, in either version

abbrev pub example_in : ℕ → Election
example_in version = record {
  version = version;
  contests = record { choices = 4; allowed = 1 } ∷ record { choices = 3; allowed = 2 } ∷ [];
  styles = 3 ∷ [];
  limit = 8;
  bits = 3;
  salt = 0;
}

abbrev pub example : Election
example = example_in 1
