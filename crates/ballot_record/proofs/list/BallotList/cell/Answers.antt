use Rattle.std.proofs.Common.{◌+◌, ◌*◌, ◌<◌, ◌≤◌, length, sym, ap, subst, ◌∙◌}
use Rattle.store_spec.proofs.Common.{IsElection}
use Rattle.ballot_record.proofs.BallotListKept.{cell_there, long_enough}
use Rattle.ballot_record.proofs.CellFormat.{length-ballot_bytes}
use Rattle.ballot_record.specs.BallotList.{ListedBallots}
use Rattle.ballot_record.proofs.list.BallotList.cell.Goals as goal

pub part-requires : goal.part-requires
part-requires c =
    let a = c.self.inside in
    let within = subst (λ (list : ListedBallots). c.args.place < length list.ballots) (sym c.self.view_is) c.requires in
    let fits = long_enough a c.args.place c.self.invariant within in
    subst (λ bytes. c.args.place * a.size + a.size ≤ length bytes) (sym c.deref.ensures.value) fits

pub returns-clause-cell : goal.returns-clause-cell
returns-clause-cell c =
    cell_there c.self.inside c.args.self.now c.args.place c.part.result.now c.deref.result.now c.self.invariant c.self.view_is c.requires c.deref.ensures.value c.part.ensures

pub returns-clause-election : goal.returns-clause-election
returns-clause-election c = subst (λ (list : ListedBallots). IsElection list.election) c.self.view_is c.self.invariant.election

pub returns-clause-long : goal.returns-clause-long
returns-clause-long c =
    let there = returns-clause-cell c in
    ap length there.2.1 ∙ length-ballot_bytes c.args.self.now.election there.0 (returns-clause-election c) there.2.0
