use Rattle.word_rule.proofs.WithdrawRemoval as removal
use Rattle.word_rule.proofs.laws.a_number_is_removed.Goals as goal

pub returns-clause-begins : goal.returns-clause-begins
returns-clause-begins c = removal.begins

pub returns-clause-goes_on : goal.returns-clause-goes_on
returns-clause-goes_on c = λ home x before old note now moves h made. removal.goes_on home x before old note now h made

pub returns-clause-ends : goal.returns-clause-ends
returns-clause-ends c = removal.ends
