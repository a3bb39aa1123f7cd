use Rattle.std.proofs.Common.{◌∙◌, sym, subst, List, ℕ}
use Rattle.store_spec.proofs.Common.{Contains, listed}
use Rattle.std.specs.Prelude.{◌↔◌}
use Rattle.phase_delete.proofs.Left.{left_alike, members_left, without_alike}
use Rattle.phase_delete.proofs.laws.the_numbers_fix_the_set.Goals as goal
use Rattle.phase_delete.specs.Closing.{all_numbers}

pub returns-clause-rest : goal.returns-clause-rest
returns-clause-rest c held after lists outcome x = subst (λ (l : List ℕ). Contains l x ↔ (Contains held x × (¬ Contains (listed lists) x))) (sym outcome.rest) (members_left held (listed lists) x)

pub returns-clause-same_set : goal.returns-clause-same_set
returns-clause-same_set c held x y lists others one other same = one.rest ∙ without_alike held (listed lists) (listed others) (λ n there. same n) ∙ sym other.rest

pub returns-clause-same_ballots : goal.returns-clause-same_ballots
returns-clause-same_ballots c base x y trays others replies answers one other same = one.rest ∙ left_alike base.ballots (all_numbers trays) (all_numbers others) (λ n there. same n) ∙ sym other.rest
