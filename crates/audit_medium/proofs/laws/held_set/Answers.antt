use Rattle.audit_medium.proofs.OneAnswer.{canonical_held, differs_held}
use Rattle.audit_medium.proofs.laws.held_set.Goals as goal

pub returns-clause-canonical : goal.returns-clause-canonical
returns-clause-canonical c e bytes set held election = canonical_held e bytes election set held

pub returns-clause-differs : goal.returns-clause-differs
returns-clause-differs c e bytes set place election = differs_held e bytes election set place
