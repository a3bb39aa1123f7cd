use Rattle.std.proofs.Common.{◌≡◌, length}
use Rattle.phase_kind.proofs.several.new_lists.Given as goal
use Rattle.phase_kind.specs.Team.{AreEmptyLists}

-- the lists so far
abbrev pub invariant-loop-place : goal.invariant-loop-place
invariant-loop-place g l = record {
  as_many : length l.lists.items ≡ l.place;
  new : AreEmptyLists g.K.Kind.is_of g.K.Kind.items g.K.Kind.room l.stores l.shares l.lists.items;
}
