-- A record of the program, as the definitions see it.
use Rattle.std.specs.Int.{Width, w64}
use Rattle.ballot_record.specs.declared.record.Record.{Record}
use Rattle.store_spec.specs.Ballot.{Ballot}

abbrev pub ballot : Record → Ballot
ballot r = record { number = r.number; style = r.style; marks = r.marks }

-- the word that a mark set is
abbrev pub set_word : Width
set_word = w64
