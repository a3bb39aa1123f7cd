use Rattle.std.proofs.Common.{◌≡◌, map, take, vec_len}
use Rattle.part_play.proofs.finding.places.Given as goal

-- the first lists have their places
abbrev pub invariant-loop-list : goal.invariant-loop-list
invariant-loop-list l = map (λ list. vec_len list) l.found.items ≡ map (λ list. vec_len list) (take l.list-index l.work)
