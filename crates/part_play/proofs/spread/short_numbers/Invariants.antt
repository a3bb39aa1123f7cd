use Rattle.std.proofs.Common.{◌^◌, ◌<◌, All, take}
use Rattle.part_play.proofs.spread.short_numbers.Given as goal

-- the numbers so far
abbrev pub invariant-loop-index : goal.invariant-loop-index
invariant-loop-index g l = All (λ x. g.K.Kind.number x < 2 ^ 64) (take l.index (g.K.Kind.items l.list))
