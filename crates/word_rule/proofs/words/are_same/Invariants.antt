use Rattle.std.proofs.Common.{◌≡◌, ℕ, ◌+◌, ◌<◌, slice_index, true}
use Rattle.std.specs.Mem.Slots.{slots_items}
use Rattle.word_rule.proofs.words.are_same.Given as goal

-- the cells so far are the table's words
abbrev pub invariant-loop-place : goal.invariant-loop-place
invariant-loop-place l = l.same ≡ true
    → ((k : ℕ) → k < l.place → slice_index l.cells k ≡ slice_index (slots_items l.closed.words) (l.first + k))
