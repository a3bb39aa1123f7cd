use Rattle.std.proofs.Common.{◌≡◌, ℕ, ◌+◌, ◌-◌, ◌<◌, ◌≤◌, slice_index}
use Rattle.script_commands.proofs.build.image.empty_run.Given as goal

-- the cells so far are empty
abbrev pub invariant-several : goal.invariant-several
invariant-several l = record {
  from : l.at + 1 ≤ l.next;
  within : l.next ≤ l.end;
  empty : (k : ℕ) → l.at ≤ k → k < l.next → slice_index l.cells k ≡ 0;
}

abbrev pub decreases-several : goal.decreases-several
decreases-several l = l.end - l.next

abbrev pub invariant-run : goal.invariant-run
invariant-run l = record {
  from : l.at + 1 ≤ l.next;
  within : l.next ≤ l.end;
  empty : (k : ℕ) → l.at ≤ k → k < l.next → slice_index l.cells k ≡ 0;
}

abbrev pub decreases-run : goal.decreases-run
decreases-run l = l.end - l.next
