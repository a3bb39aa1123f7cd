use Rattle.std.proofs.Common.{◌≡◌, ◌-◌, ◌≤◌, length, take}
use Rattle.word_rule.proofs.words.lay_out.Given as goal

-- the first cells so far
abbrev pub invariant-loop-words : goal.invariant-loop-words
invariant-loop-words l = record {
  within : length l.words.items ≤ length l.cells;
  same : l.words.items ≡ take (length l.words.items) l.cells;
}

abbrev pub decreases-loop-words : goal.decreases-loop-words
decreases-loop-words l = length l.cells - length l.words.items
