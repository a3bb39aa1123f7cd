use Rattle.recovery.proofs.Refusals.{one_refusal, refused_holds}
use Rattle.recovery.proofs.laws.one_refusal.Goals as goal

pub returns-clause-one : goal.returns-clause-one
returns-clause-one c = one_refusal

pub returns-clause-held : goal.returns-clause-held
returns-clause-held c = refused_holds
