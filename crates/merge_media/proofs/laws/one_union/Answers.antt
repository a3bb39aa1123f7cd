use Rattle.merge_media.proofs.Unions.{one_union, union_agrees}
use Rattle.merge_media.proofs.laws.one_union.Goals as goal

pub returns-clause-one : goal.returns-clause-one
returns-clause-one c = one_union

pub returns-clause-agree : goal.returns-clause-agree
returns-clause-agree c = union_agrees
