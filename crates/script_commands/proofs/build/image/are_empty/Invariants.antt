use Rattle.std.proofs.Common.{◌≡◌, ℕ, ◌<◌, ◌≤◌, true, slice_index}
use Rattle.script_commands.proofs.build.image.are_empty.Given as goal

-- the cells so far are empty
abbrev pub invariant-few : goal.invariant-few
invariant-few l = l.empty ≡ true → ((k : ℕ) → l.from ≤ k → k < l.place → slice_index l.cells k ≡ 0)
