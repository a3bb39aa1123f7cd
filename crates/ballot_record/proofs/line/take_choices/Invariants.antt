use Rattle.std.proofs.Common.{◌≡◌, ℕ, ◌+◌, ◌-◌, ◌^◌, ◌<◌, ◌≤◌, option_map}
use Rattle.ballot_record.specs.LineReading.{choices_at}
use Rattle.ballot_record.specs.Line.{set_seen}
use Rattle.ballot_record.proofs.LineSets.{after_set}
use Rattle.ballot_record.proofs.line.take_choices.Given as goal

-- what is left goes on with the set so far as the whole does with none, and the set has no choice above the last
abbrev pub invariant-loop-choice : goal.invariant-loop-choice
invariant-loop-choice l = record {
  last : l.last ≤ l.most;
  set : l.set < 2 ^ l.last;
  more : (more : ℕ) × (l.most ≤ more + l.last) × (option_map (after_set l.set) (choices_at l.most more l.last l.rest) ≡ option_map set_seen (choices_at l.most l.most 0 l.bytes));
}

abbrev pub decreases-loop-choice : goal.decreases-loop-choice
decreases-loop-choice l = l.most - l.last
