use Rattle.std.proofs.Common.{rules}
use Rattle.ballot_record.proofs.CellFormat.{header_width}
use Rattle.image_builder.proofs.read.check_header.Goals as goal

pub returns-then-eq-clause-own : goal.returns-then-eq-clause-own
returns-then-eq-clause-own c = rw header_width (search rules)
