use Rattle.audit_medium.proofs.OneAnswer.{one_answer}
use Rattle.audit_medium.proofs.laws.one_audit.Goals as goal

pub returns : goal.returns
returns c e bytes a b election = one_answer e bytes election a b
