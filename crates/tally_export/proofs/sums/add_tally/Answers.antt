use Rattle.tally_export.proofs.Adding.{tally_of_both}
use Rattle.tally_export.proofs.sums.add_tally.Goals as goal

pub returns-clause-both : goal.returns-clause-both
returns-clause-both c e xs ys first second =
    tally_of_both e xs ys c.args.left.now c.args.right.now c.add.new.self first second c.add.ensures
