-- The numbers of ballots and of records.
use Rattle.std.proofs.Common.{[]}
use Rattle.ballot_record.specs.declared.record.Record.{Record}

abbrev pub no_record : Record
no_record = record { number = 0; style = 0; marks = [] }
