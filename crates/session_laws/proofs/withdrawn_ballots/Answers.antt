use Rattle.std.proofs.Common.{[], ◌∷◌, refl, arith}
use Rattle.store_spec.proofs.Common.{Casting, IsPermutation-refl, Withdrawing, example_ballot}
use Rattle.std.specs.Fmt.{digits}
use Rattle.session_laws.specs.SessionFigures.{four, three}
use Rattle.session_laws.proofs.Closing.{all_accepted_close, one_list_withdraws}
use Rattle.session_laws.proofs.ExampleBallots.{spells_22}
use Rattle.session_laws.proofs.ExampleSets.{four_are_set}
use Rattle.session_laws.proofs.Withdrawals.{reply_to}
use Rattle.session_laws.proofs.Answered.{withdrawing_closes}
use Rattle.session_laws.proofs.Spelled.{acknowledges, casts, closes_casting, closes_withdrawing, may_close_withdrawing, opens, withdraws}
use Rattle.session_laws.proofs.Steps.{ends, plays_only_so, plays_out, rests, step, then}
use Rattle.session_laws.proofs.withdrawn_ballots.Goals as goal

pub returns-clause-displaced : goal.returns-clause-displaced
unfolding digits reply_to
returns-clause-displaced c = record {
  is = plays_only_so
      (step (opens Casting 1 (omega arith, omega arith) refl)
      (step (casts 1 (omega arith, omega arith) refl spells_22)
      (step (closes_casting (all_accepted_close ((example_ballot 22 0 0 ∷ []) ∷ []) four four_are_set (omega arith) (IsPermutation-refl four)))
      (step (opens Withdrawing 1 (omega arith, omega arith) refl)
      (step (withdraws 1 22 (omega arith, omega arith) (omega arith, omega arith) refl)
      (step (closes_withdrawing (one_list_withdraws (22 ∷ []) three refl))
      (step acknowledges (ends 8 _))))))))
      _ refl;
}

pub returns-clause-absent : goal.returns-clause-absent
unfolding digits reply_to
returns-clause-absent c = record {
  is = plays_out
      (then (opens Withdrawing 2 (omega arith, omega arith) refl).may
      (then (withdraws 1 22 (omega arith, omega arith) (omega arith, omega arith) refl).may
      (then (withdraws 2 9 (omega arith, omega arith) (omega arith, omega arith) refl).may
      (then (withdraws 2 9 (omega arith, omega arith) (omega arith, omega arith) refl).may
      (then (withdraws 1 5 (omega arith, omega arith) (omega arith, omega arith) refl).may
      (then (may_close_withdrawing (withdrawing_closes four ((22 ∷ 5 ∷ []) ∷ (9 ∷ 9 ∷ []) ∷ []) (example_ballot 1 2 5 ∷ example_ballot 14 0 2 ∷ []) refl)) (rests 7 _)))))))
      _ refl;
}
