use Rattle.std.proofs.Common.{[], ◌∷◌, ◌++◌, refl, ap, arith}
use Rattle.store_spec.proofs.Common.{Casting, Casts, example_ballot, in_phase, last_reply}
use Rattle.std.specs.Fmt.{digits}
use Rattle.session_laws.specs.SessionFigures.{three}
use Rattle.session_laws.proofs.ExampleBallots.{spells_22}
use Rattle.session_laws.proofs.Spelled.{casts, opens}
use Rattle.session_laws.proofs.Steps.{rests, then}
use Rattle.session_laws.proofs.dropped_phase.Goals as goal

pub returns : goal.returns
unfolding digits
returns c =
    let run = then (opens {n = 1} {set = three} Casting 1 (omega arith, omega arith) refl).may (then (casts 1 (omega arith, omega arith) refl spells_22).may (rests 3 (in_phase (Casts ((example_ballot 22 0 0 ∷ []) ∷ [])) three))) in
    record {
      effects = run.effects;
      end = in_phase (Casts ((example_ballot 22 0 0 ∷ []) ∷ [])) three;
      plays = run.plays;
      replied = ap (λ text. text ++ last_reply (Casts ((example_ballot 22 0 0 ∷ []) ∷ []))) run.told;
      set = refl;
    }
