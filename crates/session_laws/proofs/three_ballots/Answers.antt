use Rattle.std.proofs.Common.{refl, arith}
use Rattle.store_spec.proofs.Common.{Casting}
use Rattle.std.specs.Fmt.{digits}
use Rattle.session_laws.proofs.ExampleBallots.{spells_1, spells_9, spells_14}
use Rattle.session_laws.proofs.ExampleSets.{close_of_three}
use Rattle.session_laws.proofs.Spelled.{acknowledges, casts, closes_casting, opens}
use Rattle.session_laws.proofs.Steps.{ends, plays_only_so, step}
use Rattle.session_laws.proofs.three_ballots.Goals as goal

pub returns : goal.returns
unfolding digits
returns c = record {
  is = plays_only_so
      (step (opens Casting 2 (omega arith, omega arith) refl)
      (step (casts 1 (omega arith, omega arith) refl spells_9)
      (step (casts 2 (omega arith, omega arith) refl spells_14)
      (step (casts 1 (omega arith, omega arith) refl spells_1)
      (step (closes_casting close_of_three)
      (step acknowledges (ends 7 _)))))))
      _ refl;
}
