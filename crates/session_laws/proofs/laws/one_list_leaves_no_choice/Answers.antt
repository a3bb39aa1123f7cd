use Rattle.session_laws.proofs.OneList as casting
use Rattle.session_laws.proofs.OneWithdrawList as withdrawing
use Rattle.session_laws.proofs.laws.one_list_leaves_no_choice.Goals as goal

pub returns-clause-casting : goal.returns-clause-casting
returns-clause-casting c = casting.one_close

pub returns-clause-withdrawing : goal.returns-clause-withdrawing
returns-clause-withdrawing c = withdrawing.one_close
