use Rattle.ballot_record.proofs.FormatReading.{style_read}
use Rattle.ballot_record.proofs.format.style_of.Goals as goal

pub returns : goal.returns
returns c b is = style_read c.args.election.now c.args.bytes.now b c.requires.valid is
