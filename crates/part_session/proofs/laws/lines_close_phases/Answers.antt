use Rattle.part_session.proofs.Played.{are_closed, lines_close}
use Rattle.part_session.proofs.laws.lines_close_phases.Goals as goal

pub returns-clause-some : goal.returns-clause-some
returns-clause-some c e bits n s end lines effects plays = lines_close bits e n s end lines effects plays

pub returns-clause-closed : goal.returns-clause-closed
returns-clause-closed c e bits set end run others closed = are_closed bits e set end run others closed
