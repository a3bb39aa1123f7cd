use Rattle.word_rule.proofs.CastCloses as seats
use Rattle.word_rule.proofs.CastLaws as words
use Rattle.word_rule.proofs.cast.CastingPhaseRuleCastSight.laws.Goals as goal

pub returns-clause-opens : goal.returns-clause-opens
returns-clause-opens c = words.opens

pub returns-clause-keeps : goal.returns-clause-keeps
returns-clause-keeps c = words.keeps_seats

pub returns-clause-closes : goal.returns-clause-closes
returns-clause-closes c = λ words places last may ended. seats.closes words places last ended
