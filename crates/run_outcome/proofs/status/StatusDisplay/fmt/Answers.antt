use Rattle.std.proofs.Common.{List, ℕ, arith, subst}
use Rattle.store_spec.proofs.Common.{common_steps}
use Rattle.std.specs.Fmt.{HasWritten}
use Rattle.run_outcome.proofs.status.StatusDisplay.fmt.Goals as goal

pub returns-in-MediumSize-clause-writes : goal.returns-in-MediumSize-clause-writes
returns-in-MediumSize-clause-writes g c plain fine =
    subst (λ (text : List ℕ). HasWritten g.W.Write.write_str_gives c.args.f.now text c.write-in-MediumSize.new.self) (grind (arith, common_steps)) (c.write-in-MediumSize.ensures.writes plain fine)

pub returns-in-Misplaced-clause-writes : goal.returns-in-Misplaced-clause-writes
returns-in-Misplaced-clause-writes g c plain fine =
    subst (λ (text : List ℕ). HasWritten g.W.Write.write_str_gives c.args.f.now text c.write-in-Misplaced.new.self) (grind (arith, common_steps)) (c.write-in-Misplaced.ensures.writes plain fine)
