use Rattle.part_session.proofs.OneRun.{one_close, run_alike}
use Rattle.part_session.proofs.laws.each_part_by_itself.Goals as goal

pub returns-clause-close : goal.returns-clause-close
returns-clause-close c e bits part set other after one phase are below may wait alike same closed =
    one_close e bits part are below set other after may alike phase one wait same closed

pub returns-clause-run : goal.returns-clause-run
returns-clause-run c e bits part set other end run phases are below may wait alike same closed =
    run_alike e bits part are below run phases set other end may alike wait same closed
