use Rattle.step_core.proofs.WithdrawingEnds as phase
use Rattle.step_core.proofs.WithdrawingRuns as runs
use Rattle.step_core.proofs.laws.withdraw.every_schedule.Goals as goal

pub returns-clause-opens : goal.returns-clause-opens
returns-clause-opens c = phase.opens

pub returns-clause-keeps : goal.returns-clause-keeps
returns-clause-keeps c = runs.runs_keep

pub returns-clause-one_run : goal.returns-clause-one_run
returns-clause-one_run c = runs.one_run

pub returns-clause-ends : goal.returns-clause-ends
returns-clause-ends c = phase.ends
