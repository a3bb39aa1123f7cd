use Rattle.part_session.proofs.Played.{plays_alike}
use Rattle.part_session.proofs.laws.each_part_by_its_lines.Goals as goal

pub returns : goal.returns
returns c e bits part set other lines others effects end run are below may alike scripts plays closed =
    plays_alike bits e part set other lines others effects end run are below may alike scripts plays closed
