use Rattle.std.proofs.Common.{refl}
use Rattle.store_spec.proofs.step_figures.example_claims.Goals as goal

pub returns : goal.returns
returns c = record { first = refl; second = refl; third = refl; last = refl }
