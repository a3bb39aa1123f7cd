use Rattle.std.proofs.Common.{arith}
use Rattle.store_spec.proofs.Common.{All-map, length-map}
use Rattle.ballot_record.proofs.Counts.{All-unmap}
use Rattle.ballot_record.specs.Contest.{contest_of}
use Rattle.store_spec.specs.Election.{IsContestUpTo}
use Rattle.ballot_record.proofs.election.are_contests.Goals as goal

pub returns-then-count-most : goal.returns-then-count-most
returns-then-count-most c =
    let contests = c.args.contests.now in
    let same = length-map contests contest_of in (
      λ yes. record {
        some = omega (arith, same);
        few = omega (arith, same);
        each = All-map (IsContestUpTo c.args.most_choices) contest_of contests (c.each_is_valid.ensures.0 yes);
      },
      λ are. c.each_is_valid.ensures.1 (All-unmap contest_of (IsContestUpTo c.args.most_choices) contests are.each),
    )
