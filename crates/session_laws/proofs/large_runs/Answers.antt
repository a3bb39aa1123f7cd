use Rattle.std.proofs.Common.{◌++◌, refl, arith}
use Rattle.store_spec.proofs.Common.{All-contains_itself, All-from_recursion, Contains, Contains-append_left, IsBallotSet, example}
use Rattle.std.specs.Fmt.{digits}
use Rattle.std.specs.Int.RustNames.{count_ones}
use Rattle.script_lines.specs.Generated.{cast_ballots}
use Rattle.session_laws.specs.LargeFigures.{first_one, with_two}
use Rattle.session_laws.specs.LargeRun.{new_to}
use Rattle.session_laws.specs.SessionFigures.{full}
use Rattle.session_laws.proofs.ExampleBallots.{spells_1, valid}
use Rattle.session_laws.proofs.ExampleSets.{full_is_set, rising_is_set}
use Rattle.session_laws.proofs.LargeSets.{all_among}
use Rattle.session_laws.proofs.large_runs.Goals as goal

-- the three ballots are a set
three_are_set : IsBallotSet example with_two
three_are_set =
    rising_is_set _ _ (spells_1.valid, (valid 8330656331007053503 8 2 (omega arith) (omega arith) (omega arith) (omega arith), (valid 11702685578574552874 4 1 (omega arith) (omega arith) (omega arith) (omega arith), tt)))
    (omega arith, (omega arith, tt))

pub returns-clause-sets : goal.returns-clause-sets
returns-clause-sets c = record {
  gained = record {
    cast = with_two;
    gains = record {
      is = three_are_set;
      keeps = All-from_recursion (Contains with_two) first_one ((0, omega arith, refl), tt);
      only = All-from_recursion (Contains (first_one ++ new_to first_one (cast_ballots example 1 2))) with_two ((0, omega arith, refl), ((2, omega arith, refl), ((1, omega arith, refl), tt)));
      count = refl;
    };
    rest = refl;
  };
  full_before = record {
    cast = full;
    gains = record { is = full_is_set; keeps = All-contains_itself full; only = all_among full (full ++ new_to full (cast_ballots example 1 3)) (λ b at. Contains-append_left full (new_to full (cast_ballots example 1 3)) b at); count = refl };
    rest = refl;
  };
}

pub returns-clause-summaries : goal.returns-clause-summaries
unfolding digits count_ones
returns-clause-summaries c = record { gained = refl; full_before = refl }
