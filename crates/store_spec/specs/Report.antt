-- Reports on a set of ballots: its tally, and an export of its ballots. Each is a text of lines.
use Rattle.std.specs.Prelude.{ℕ, ◌-◌, ◌==◌, nat_lt, Bool, if◌then◌else◌, List, [], ◌∷◌, ◌++◌, length, map, filter, sum_by, count_by, flat_map, count_ones, slice_get, slice_index, codes}
use Rattle.std.specs.Fmt.{decimal}
use Rattle.std.specs.Int.{bit_at}
use Rattle.std.specs.List.{range_with_len}
use Rattle.std.specs.Option.{option_map_or}
use Rattle.store_spec.specs.Ballot.{Ballot}
use Rattle.store_spec.specs.BallotLine.{record_line, space}
use Rattle.store_spec.specs.Election.{Election, choices_of, is_on_style}
use Rattle.store_spec.specs.Input.{line_end}

-- ---- the tally

-- how many choices of contest k a voter may mark: none where there is no such contest
abbrev pub allowed_of : Election → ℕ → ℕ
allowed_of e k =
    if k == 0 then 0
    else option_map_or (λ contest. contest.allowed) (slice_get e.contests (k - 1)) 0

-- the mark set of a ballot in contest k
abbrev pub marked_in : ℕ → Ballot → ℕ
marked_in k b = slice_index b.marks (k - 1)

-- whether a ballot marks more choices of contest k than it allows
abbrev pub is_overvote : Election → ℕ → Ballot → Bool
is_overvote e k b = nat_lt (allowed_of e k) (count_ones (marked_in k b))

-- the ballots whose style has contest k
abbrev pub ballots_with : Election → ℕ → List Ballot → List Ballot
ballots_with e k ballots = filter (λ b. is_on_style e b.style k) ballots

-- how many ballots mark choice c of contest k; an overvote counts for none
abbrev pub votes : Election → List Ballot → ℕ → ℕ → ℕ
votes e ballots k c =
    sum_by (λ b. if is_overvote e k b then 0 else bit_at (marked_in k b) (c - 1)) (ballots_with e k ballots)

-- how many marks fewer than contest k allows its ballots have; the difference is 0 on an overvote
abbrev pub undervotes : Election → List Ballot → ℕ → ℕ
undervotes e ballots k =
    sum_by (λ b. allowed_of e k - count_ones (marked_in k b)) (ballots_with e k ballots)

abbrev pub overvotes : Election → List Ballot → ℕ → ℕ
overvotes e ballots k = count_by (is_overvote e k) (ballots_with e k ballots)

-- ---- the texts

-- lines, each with its end
abbrev pub lines_text : List (List ℕ) → List ℕ
lines_text lines = flat_map (λ line. line ++ line_end ∷ []) lines

-- how many there are of what the text lists
abbrev pub count_line : List ℕ → ℕ → List ℕ
count_line what count = what ++ space ∷ decimal count

-- `contest K under U over O`
abbrev pub contest_line : ℕ → ℕ → ℕ → List ℕ
contest_line k under over =
    codes "contest " ++ decimal k ++ codes " under " ++ decimal under ++ codes " over " ++ decimal over

-- `choice K C V`
abbrev pub choice_line : ℕ → ℕ → ℕ → List ℕ
choice_line k c count = codes "choice " ++ decimal k ++ space ∷ decimal c ++ space ∷ decimal count

-- the line of a contest, and one for each of its choices
abbrev pub contest_lines : Election → List Ballot → ℕ → List (List ℕ)
contest_lines e ballots k =
    contest_line k (undervotes e ballots k) (overvotes e ballots k)
    ∷ map (λ c. choice_line k c (votes e ballots k c)) (range_with_len 1 (choices_of e k))

-- `tally N`, and the lines of each contest
abbrev pub tally_lines : Election → List Ballot → List (List ℕ)
tally_lines e ballots =
    count_line (codes "tally") (length ballots)
    ∷ flat_map (contest_lines e ballots) (range_with_len 1 (length e.contests))

abbrev pub tally_text : Election → List Ballot → List ℕ
tally_text e ballots = lines_text (tally_lines e ballots)

-- `export N`, and the line of each ballot, in ascending order of their numbers
abbrev pub export_lines : Election → List Ballot → List (List ℕ)
export_lines e ballots = count_line (codes "export") (length ballots) ∷ map (record_line e) ballots

abbrev pub export_text : Election → List Ballot → List ℕ
export_text e ballots = lines_text (export_lines e ballots)
