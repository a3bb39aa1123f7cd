use Rattle.session_laws.proofs.WholeReplies.{summary_behind, summary_each}
use Rattle.session_laws.proofs.laws.large.summaries_join.Goals as goal

pub returns-clause-each : goal.returns-clause-each
returns-clause-each c = summary_each

pub returns-clause-behind : goal.returns-clause-behind
returns-clause-behind c = summary_behind
