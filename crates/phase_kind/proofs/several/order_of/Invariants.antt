use Rattle.std.proofs.Common.{◌≡◌, map, take}
use Rattle.phase_kind.proofs.several.order_of.Given as goal

-- where the items so far go
abbrev pub invariant-loop-index : goal.invariant-loop-index
invariant-loop-index g l = l.order.items ≡ map (λ x. g.S.Spread.to l.spread (g.K.Kind.number x)) (take l.index (g.K.Kind.items l.list))
