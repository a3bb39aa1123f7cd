use Rattle.phase_insert.proofs.Unions as unions
use Rattle.phase_insert.proofs.laws.the_set_is_the_union.Goals as goal

pub returns-clause-union : goal.returns-clause-union
returns-clause-union c e base after lists out together = unions.union e base after lists out together

pub returns-clause-same_set : goal.returns-clause-same_set
returns-clause-same_set c = unions.same_set
