use Rattle.std.proofs.Common.{◌≡◌, ◌*◌, take}
use Rattle.store_spec.proofs.Common.{bytes_high_first, flat_map}
use Rattle.ballot_record.proofs.format.put_all_sets.Given as goal

-- the first sets are put
abbrev pub invariant-sets : goal.invariant-sets
invariant-sets l = take (l.width * l.place) l.out ≡ flat_map (bytes_high_first l.width) (take l.place l.sets)
