use Rattle.std.proofs.Common.{◌≡◌, ◌-◌, ◌≤◌, ◌++◌, replicate}
use Rattle.layout_def.proofs.zeros.put_zeros.Given as goal

-- so many zeros stand behind the words that are not left
abbrev pub invariant-loop-left : goal.invariant-loop-left
invariant-loop-left l = record {
  within : l.left ≤ l.count;
  zeros : l.words.items ≡ l.initial.words.items ++ replicate (l.count - l.left) 0;
}

abbrev pub decreases-loop-left : goal.decreases-loop-left
decreases-loop-left l = l.left
