use Rattle.std.proofs.Common.{sym, subst, arith}
use Rattle.merge_media.proofs.Joining.{joined_union}
use Rattle.merge_media.proofs.merging.store_of.Goals as goal
use Rattle.merge_media.specs.Union.{IsJoinedOf}

pub returns-then-count-limit-clause-refused : goal.returns-then-count-limit-clause-refused
returns-then-count-limit-clause-refused c sets j =
    let union = c.args.union.now in
    record {
      union = union.ballots;
      is = joined_union sets union.ballots (subst (IsJoinedOf sets union.ballots) c.requires.agree j);
      count_is = sym c.len-count.ensures;
      above = omega (arith, c.if-count-limit.true, c.limit.ensures.limit);
    }
