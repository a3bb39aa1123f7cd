use Rattle.std.proofs.Common.{◌≡◌, ◌∷◌, length, map, take}
use Rattle.store_spec.proofs.Common.{codes, count_line, lines_text, record_line}
use Rattle.body_store.specs.Contents.{ballots_of}
use Rattle.sample_commands.proofs.sample.text_of.Given as goal

-- the first line and those of the ballots so far
abbrev pub invariant-loop-ballot : goal.invariant-loop-ballot
invariant-loop-ballot l =
    l.text.items ≡ lines_text (count_line (codes "sample") (length l.sample) ∷ map (record_line l.election) (ballots_of (take l.ballot-index l.sample)))
