-- Ballots beside their replies.
use Rattle.std.proofs.Common.{[]}
use Rattle.store_spec.proofs.Common.{Ballot}
use Rattle.phase_insert.specs.Tray.{Cast}
use Rattle.phase_insert.specs.declared.reply.CastReply.{CastReply}
use Rattle.phase_kind.proofs.Trays.{told_of}

abbrev pub cast_of : Ballot → CastReply → Cast
cast_of b reply = told_of b reply

-- what stands past the end of a list
abbrev pub no_ballot : Ballot
no_ballot = record { number = 0; style = 0; marks = [] }
