use Rattle.image_builder.proofs.Held.{medium_holds, one_held}
use Rattle.image_builder.proofs.laws.one_held.Goals as goal

pub returns-clause-held : goal.returns-clause-held
returns-clause-held c = one_held

pub returns-clause-medium : goal.returns-clause-medium
returns-clause-medium c = medium_holds
