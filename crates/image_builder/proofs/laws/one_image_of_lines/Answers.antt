use Rattle.std.proofs.Common.{ap}
use Rattle.store_spec.proofs.Common.{image_of}
use Rattle.ballot_record.proofs.BuildLaws.{any_order_builds, same_lines_build, same_set}
use Rattle.image_builder.proofs.laws.one_image_of_lines.Goals as goal

pub returns-clause-any_order : goal.returns-clause-any_order
returns-clause-any_order c e lines others xs ys p first second =
    ap (image_of e) (same_set e others xs ys (any_order_builds e lines others xs p first) second)

pub returns-clause-same_lines : goal.returns-clause-same_lines
returns-clause-same_lines c e lines others xs ys same first second = ap (image_of e) (same_lines_build e lines others xs ys same first second)
