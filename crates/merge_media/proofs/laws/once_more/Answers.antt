use Rattle.std.proofs.Common.{◌∷◌}
use Rattle.merge_media.proofs.Standing.{disputed_within, stands_behind}
use Rattle.merge_media.proofs.Unions.{repeated, union_same}
use Rattle.merge_media.proofs.laws.once_more.Goals as goal

pub returns-clause-union : goal.returns-clause-union
returns-clause-union c sets set union there =
    (union_same sets (set ∷ sets) union (stands_behind set sets) (repeated sets set there), union_same (set ∷ sets) sets union (repeated sets set there) (stands_behind set sets))

pub returns-clause-disputed : goal.returns-clause-disputed
returns-clause-disputed c sets set number there =
    (disputed_within sets (set ∷ sets) (stands_behind set sets) number, disputed_within (set ∷ sets) sets (repeated sets set there) number)
