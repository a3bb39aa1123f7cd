use Rattle.std.proofs.Common.{List, [], ◌∷◌, refl, arith}
use Rattle.store_spec.proofs.Common.{Ballot, Casting, IsPermutation-append_comm, IsPermutation-append_left, IsPermutation-append_right, Withdrawing, example_ballot}
use Rattle.std.specs.Fmt.{digits}
use Rattle.session_laws.specs.SessionFigures.{four}
use Rattle.session_laws.proofs.Closing.{all_accepted_close, one_list_withdraws}
use Rattle.session_laws.proofs.ExampleBallots.{spells_1, spells_9, spells_14, spells_22}
use Rattle.session_laws.proofs.ExampleSets.{close_of_three, four_are_set}
use Rattle.session_laws.proofs.Spelled.{acknowledges, casts, closes_casting, closes_withdrawing, opens, withdraws}
use Rattle.session_laws.proofs.Steps.{ends, plays_only_so, step}
use Rattle.session_laws.proofs.two_scripts_one_set.Goals as goal
use Rattle.session_laws.proofs.Withdrawals.{reply_to}

-- a list of one ballot
abbrev one : List Ballot
one = example_ballot 1 2 5 ∷ []

abbrev nine : List Ballot
nine = example_ballot 9 1 0 ∷ []

abbrev fourteen : List Ballot
fourteen = example_ballot 14 0 2 ∷ []

abbrev twenty_two : List Ballot
twenty_two = example_ballot 22 0 0 ∷ []

pub returns : goal.returns
unfolding digits reply_to
returns c = record {
  in_steps = plays_only_so
      (step (opens Casting 2 (omega arith, omega arith) refl)
      (step (casts 1 (omega arith, omega arith) refl spells_9)
      (step (casts 2 (omega arith, omega arith) refl spells_14)
      (step (casts 1 (omega arith, omega arith) refl spells_1)
      (step (closes_casting close_of_three)
      (step acknowledges
      (step (opens Withdrawing 1 (omega arith, omega arith) refl)
      (step (withdraws 1 9 (omega arith, omega arith) (omega arith, omega arith) refl)
      (step (closes_withdrawing (one_list_withdraws (9 ∷ []) (example_ballot 1 2 5 ∷ fourteen) refl))
      (step acknowledges
      (step (opens Casting 1 (omega arith, omega arith) refl)
      (step (casts 1 (omega arith, omega arith) refl spells_9)
      (step (casts 1 (omega arith, omega arith) refl spells_22)
      (step (closes_casting (all_accepted_close ((example_ballot 9 1 0 ∷ twenty_two) ∷ []) four four_are_set (omega arith)
      (IsPermutation-append_right one _ _ (IsPermutation-append_left twenty_two _ _ (IsPermutation-append_comm fourteen nine)))))
      (step acknowledges (ends 16 _))))))))))))))))
      _ refl;
  at_once = plays_only_so
      (step (opens Casting 3 (omega arith, omega arith) refl)
      (step (casts 3 (omega arith, omega arith) refl spells_22)
      (step (casts 1 (omega arith, omega arith) refl spells_14)
      (step (casts 2 (omega arith, omega arith) refl spells_9)
      (step (casts 1 (omega arith, omega arith) refl spells_1)
      (step (closes_casting (all_accepted_close ((example_ballot 14 0 2 ∷ one) ∷ nine ∷ twenty_two ∷ []) four four_are_set (omega arith)
      (IsPermutation-append_left twenty_two _ _ (IsPermutation-append_comm fourteen (example_ballot 1 2 5 ∷ nine)))))
      (step acknowledges (ends 8 _))))))))
      _ refl;
}
