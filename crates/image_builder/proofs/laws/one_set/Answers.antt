use Rattle.std.proofs.Common.{sym, ◌∙◌}
use Rattle.image_builder.proofs.OneSet.{one_set}
use Rattle.image_builder.proofs.laws.one_set.Goals as goal

pub returns-clause-sets : goal.returns-clause-sets
returns-clause-sets c = one_set

pub returns-clause-bank : goal.returns-clause-bank
returns-clause-bank c e bank xs ys election first second =
    one_set e xs ys election first.set first.within_limit second.set second.within_limit (sym first.bytes ∙ second.bytes)
