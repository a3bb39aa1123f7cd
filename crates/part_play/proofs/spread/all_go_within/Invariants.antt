use Rattle.std.proofs.Common.{◌^◌, ◌<◌, All, take}
use Rattle.part_play.proofs.spread.all_go_within.Given as goal

-- the numbers of the lists so far
abbrev pub invariant-loop-list : goal.invariant-loop-list
invariant-loop-list g l = All (λ list. All (λ x. g.K.Kind.number x < 2 ^ 64) (g.K.Kind.items list)) (take l.list-index l.work)
