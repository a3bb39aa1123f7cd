use Rattle.std.proofs.Common.{◌≡◌, ℕ, ◌+◌, ◌<◌, get_or}
use Rattle.std.specs.Mem.Slots.{slots_items}
use Rattle.word_rule.proofs.words.take_words.Given as goal

-- the words so far are the table's
abbrev pub invariant-loop-place : goal.invariant-loop-place
invariant-loop-place l = (k : ℕ) → k < l.place → get_or l.words k 0 ≡ get_or (slots_items l.closed.words) (l.first + k) 0
