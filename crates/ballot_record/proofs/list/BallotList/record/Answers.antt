use Rattle.std.proofs.Common.{Some, sym, ap, ap₂, ◌∙◌}
use Rattle.store_spec.proofs.Common.{Election}
use Rattle.ballot_record.proofs.CellFormat.{spells_itself}
use Rattle.ballot_record.proofs.list.BallotList.record.Goals as goal
use Rattle.ballot_record.specs.Format.{ballot_at}

pub returns : goal.returns
returns c =
    let e = c.args.self.now.election in
    let there = c.cell.ensures.cell in
    there.1
    ∙ ap Some
    (sym (c.of_cell.ensures
    ∙ ap₂ (λ (e : Election) bytes. ballot_at e bytes) c.requires.election there.2.1
    ∙ spells_itself e there.0 c.cell.ensures.election there.2.0))
