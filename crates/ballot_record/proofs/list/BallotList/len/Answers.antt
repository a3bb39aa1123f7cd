use Rattle.std.proofs.Common.{length, sym, ap, ◌∙◌}
use Rattle.ballot_record.proofs.BallotLists.{length-ballots_at}
use Rattle.ballot_record.specs.BallotList.{ListedBallots}
use Rattle.ballot_record.proofs.list.BallotList.len.Goals as goal

pub returns-clause-count : goal.returns-clause-count
returns-clause-count c =
    let a = c.self.inside in
    sym (length-ballots_at a.of.value a.count a.bytes.items) ∙ ap (λ (list : ListedBallots). length list.ballots) c.self.view_is
