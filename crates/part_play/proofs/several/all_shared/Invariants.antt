use Rattle.std.proofs.Common.{All, length, map, zip}
use Rattle.part_play.proofs.several.all_shared.Given as goal
use Rattle.part_play.specs.Several.{AreAllShared}

-- the lists so far
abbrev pub invariant-loop-list : goal.invariant-loop-list
invariant-loop-list g l = record {
  shared : AreAllShared (λ x. g.S.Spread.to l.spread (g.K.Kind.number x)) (length l.stores) (map g.K.Kind.items l.yielded) (map (λ row. map g.K.Kind.items row.items) l.rows.items) (map (λ order. order.items) l.orders.items);
  is_of : All (λ row. All (λ at. g.K.Kind.is_of at.0 at.1) (zip l.stores row.items)) l.rows.items;
}
