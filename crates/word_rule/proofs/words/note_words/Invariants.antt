use Rattle.std.proofs.Common.{◌-◌, ◌≤◌, length, take}
use Rattle.std.specs.Mem.Slots.{slots_items}
use Rattle.layout_def.specs.Changes.{AreChangesUpTo}
use Rattle.word_rule.proofs.words.note_words.Given as goal

-- the changes so far are noted
abbrev pub invariant-loop-at : goal.invariant-loop-at
invariant-loop-at l = record {
  within : l.at ≤ length l.before;
  noted : AreChangesUpTo l.before (take (length l.before) (slots_items l.closed.words)) l.at l.changes.items;
}

abbrev pub decreases-loop-at : goal.decreases-loop-at
decreases-loop-at l = length l.before - l.at
