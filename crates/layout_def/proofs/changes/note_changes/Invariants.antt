use Rattle.std.proofs.Common.{◌≡◌, ℕ, ◌+◌, ◌-◌, ◌<◌, ◌≤◌, List, length, vec_capacity, vec_len}
use Rattle.store_spec.proofs.Common.{bit_at}
use Rattle.layout_def.proofs.Changing.{IsNotedTo}
use Rattle.layout_def.specs.Changes.{AreChangesUpTo, StandFrom}
use Rattle.layout_def.proofs.changes.note_changes.Given as goal

-- the cells that are marked no more are noted
abbrev pub invariant-loop-others : goal.invariant-loop-others
invariant-loop-others l = record {
  within : (k : ℕ) → bit_at l.others k ≡ 1 → k < length l.new;
  room : (n : ℕ) × (((k : ℕ) → k < n → bit_at l.others k ≡ 0) × (vec_len l.changes + (length l.new - n) ≤ vec_capacity l.changes));
  noted : (before after : List ℕ) → StandFrom l.first l.old before → StandFrom l.first l.new after
      → AreChangesUpTo before after l.first l.fn.changes.items
      → (n : ℕ) × IsNotedTo before after l.first (length l.new) n l.others l.changes.items;
}

abbrev pub decreases-loop-others : goal.decreases-loop-others
decreases-loop-others l = l.others
