use Rattle.step_core.proofs.WithdrawOneRow as rows
use Rattle.step_core.proofs.laws.withdraw.one_row.Goals as goal

pub returns-clause-later : goal.returns-clause-later
returns-clause-later c = rows.one_row
