use Rattle.std.proofs.Common.{◌≡◌, ◌+◌, ◌-◌, ◌++◌, List, length}
use Rattle.store_spec.proofs.Common.{Ballot, contest_lines, flat_map, lines_text, range_with_len, string_bytes}
use Rattle.tally_export.specs.Counted.{IsTallyOf}
use Rattle.tally_export.proofs.text.push_contests.Given as goal

-- the lines of the first contests are put
abbrev pub invariant-contests : goal.invariant-contests
invariant-contests l =
    (ballots : List Ballot) → IsTallyOf l.election ballots l.tally
    → string_bytes l.text ++ lines_text
    (flat_map (contest_lines l.election ballots)
    (range_with_len (l.place + 1) (length l.election.contests - l.place)))
    ≡ string_bytes l.initial.text ++ lines_text
    (flat_map (contest_lines l.election ballots) (range_with_len 1 (length l.election.contests)))
