use Rattle.std.proofs.Common.{[], arith, subst}
use Rattle.store_spec.proofs.Common.{IsValid, get_or-map, length-map}
use Rattle.ballot_record.specs.Record.{ballot}
use Rattle.ballot_record.specs.declared.record.Record.{Record}
use Rattle.sample_commands.proofs.sample.text_of.Goals as goal

pub put_line-requires : goal.put_line-requires
put_line-requires c =
    let records = c.args.sample.now in
    let i = c.loop-ballot.ballot-index in
    let none : Record = record { number = 0; style = 0; marks = [] } in
    subst (IsValid c.args.election.now) (get_or-map ballot records i none (ballot none) (omega arith))
    (c.requires i (ballot none) (omega (arith, length-map records ballot)))
