use Rattle.word_rule.proofs.WithdrawCloses as seats
use Rattle.word_rule.proofs.WithdrawLaws as words
use Rattle.word_rule.proofs.withdraw.WithdrawingPhaseRuleWithdrawSight.laws.Goals as goal

pub returns-clause-opens : goal.returns-clause-opens
returns-clause-opens c = words.opens

pub returns-clause-keeps : goal.returns-clause-keeps
returns-clause-keeps c = words.keeps_seats

pub returns-clause-closes : goal.returns-clause-closes
returns-clause-closes c = λ words places last may ended. seats.closes words places last may.size ended
