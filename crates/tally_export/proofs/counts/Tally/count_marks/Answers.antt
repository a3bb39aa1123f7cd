use Rattle.std.proofs.Common.{arith}
use Rattle.tally_export.proofs.counts.Tally.count_marks.Goals as goal

pub add_choices-requires-clause-room : goal.add_choices-requires-clause-room
add_choices-requires-clause-room c choice within = c.requires.room.choices c.args.place choice c.requires.within (omega arith)
