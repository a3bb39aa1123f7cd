use Rattle.std.proofs.Common.{◌≡◌, All, Bor, Global, Vec, ℕ, length, map, zip}
use Rattle.part_play.proofs.several.each_in_order.Given as goal
use Rattle.phase_kind.specs.Team.{AreInListOrder}

-- the replies to the lists so far
abbrev pub invariant-loop-order : goal.invariant-loop-order
invariant-loop-order g l = record {
  as_many : length l.told.items ≡ length l.yielded;
  in_order : All (λ (at : (Vec ℕ Global × Vec (Vec g.row.F.Denot Global) Global) × Vec g.row.F.Denot Global). AreInListOrder (λ p. p) at.0.0.items (map (λ row. row.items) at.0.1.items) at.1.items) (zip (map (λ (y : Bor (Vec ℕ Global) × Bor (Vec (Vec g.row.F.Denot Global) Global)). (y.0.now, y.1.now)) l.yielded) l.told.items);
}
