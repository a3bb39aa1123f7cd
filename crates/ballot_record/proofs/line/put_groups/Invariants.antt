use Rattle.std.proofs.Common.{◌≡◌, List, ℕ}
use Rattle.ballot_record.specs.LineReading.{groups_of}
use Rattle.ballot_record.proofs.LineMarks.{IsSoFar, sets_kept}
use Rattle.ballot_record.proofs.line.put_groups.Given as goal

-- what is left goes on with the groups so far as the whole does with none, and their mark sets stand in front
abbrev pub invariant-loop-place : goal.invariant-loop-place
invariant-loop-place l =
    (before : List (List ℕ)) × IsSoFar l.choices l.groups before l.place l.rest (groups_of l.choices l.groups l.bytes) × (l.marks ≡ sets_kept before l.place)
