use Rattle.std.proofs.Common.{◌∙◌, arith}
use Rattle.ballot_record.proofs.BallotListKept.{number_there}
use Rattle.ballot_record.proofs.CellFormat.{number_fits}
use Rattle.ballot_record.proofs.list.BallotList.number.Goals as goal

pub number_of-requires : goal.number_of-requires
number_of-requires c = omega (arith, number_fits c.args.self.now.election, c.cell.ensures.long)

pub returns : goal.returns
returns c =
    let there = c.cell.ensures.cell in
    c.number_of.ensures ∙ number_there c.args.self.now.election c.args.self.now.ballots c.args.place c.cell.result.now there.0 there.1 there.2
