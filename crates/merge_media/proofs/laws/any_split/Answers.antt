use Rattle.merge_media.proofs.Unions.{split_union, union_agrees}
use Rattle.merge_media.proofs.laws.any_split.Goals as goal

pub returns-clause-union : goal.returns-clause-union
returns-clause-union c = split_union

pub returns-clause-agree : goal.returns-clause-agree
returns-clause-agree c parts set up split = union_agrees parts set (split_union parts set up split)
