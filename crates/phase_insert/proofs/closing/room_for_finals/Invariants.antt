use Rattle.std.proofs.Common.{◌≡◌, [], length, map, take, vec_capacity}
use Rattle.store_spec.proofs.Common.{All}
use Rattle.phase_insert.proofs.closing.room_for_finals.Given as goal

abbrev pub invariant-loop-tray : goal.invariant-loop-tray
invariant-loop-tray l = record {
  empty : All (λ list. list.items ≡ []) l.lists.items;
  room : map (λ list. vec_capacity list) l.lists.items ≡ map (λ tray. length tray.replies.items) (take l.tray-index l.trays);
}
