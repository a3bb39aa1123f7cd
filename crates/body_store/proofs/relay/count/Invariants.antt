use Rattle.std.proofs.Common.{◌≡◌, length, take}
use Rattle.body_store.proofs.relay.count.Given as goal
use Rattle.body_store.specs.Contents.{all_listed}

-- those of the lists so far
abbrev pub invariant-lists : goal.invariant-lists
invariant-lists l = l.count ≡ length (all_listed (take l.list-index l.lists))
