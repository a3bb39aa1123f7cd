-- What the readers of a line see of its parts: mark sets in place of choices.
use Rattle.std.specs.Prelude.{ℕ, ◌-◌, List, ◌++◌, length, map, replicate}
use Rattle.store_spec.specs.Ballot.{Ballot, MARK_SETS}
use Rattle.store_spec.specs.BallotLine.{RecordLine, mark_set, ballot_of_line}

-- choices and the bytes after them
abbrev pub set_seen : List ℕ × List ℕ → ℕ × List ℕ
set_seen found = (mark_set found.0, found.1)

-- the mark sets of a ballot, and how many of them are those of groups
abbrev pub sets_seen : List (List ℕ) → List ℕ × ℕ
sets_seen groups = (map mark_set groups ++ replicate (MARK_SETS - length groups) 0, length groups)

abbrev pub line_seen : RecordLine → Ballot × ℕ
line_seen line = (ballot_of_line line, length line.groups)
