-- The sets of the figures, and the close that leads to the first of them.
use Rattle.std.proofs.Common.{ℕ, ◌^◌, ◌<◌, ◌≤◌, List, [], ◌∷◌, arith}
use Rattle.store_spec.proofs.Common.{All-from_recursion, AllByRecursion, Ballot, IsBallotSet, IsPermutation-append_comm, IsPermutation-append_left, IsValid, example, example_ballot}
use Rattle.session_laws.specs.SessionFigures.{four, full, three}
use Rattle.session_laws.proofs.Closing.{all_accepted_close, all_accepted_effect}
use Rattle.session_laws.proofs.ExampleBallots.{spells_1, spells_9, spells_14, spells_22, valid}
use Rattle.session_laws.proofs.Lists.{Chain, chain_pairs, pairs}
use Rattle.session_laws.proofs.Spelled.{ClosesCastingOnlySo}

-- no ballots are a set
pub empty_is_set : IsBallotSet example []
empty_is_set = record { valid = All-from_recursion (IsValid example) [] tt; ascending = pairs (λ (a b : Ballot). a.number < b.number) [] tt }

-- valid ballots, each with a greater number than the one before it
pub rising_is_set : (b : Ballot) (ballots : List Ballot) → AllByRecursion (IsValid example) (b ∷ ballots) → Chain (λ (a b : Ballot). a.number < b.number) b ballots → IsBallotSet example (b ∷ ballots)
rising_is_set b ballots valid rising = record {
  valid = All-from_recursion (IsValid example) (b ∷ ballots) valid;
  ascending = chain_pairs (λ (a b : Ballot). a.number < b.number) (λ a b c less more. omega arith) b ballots rising;
}

-- one valid ballot is a set
pub one_is_set : (b : Ballot) → IsValid example b → IsBallotSet example (b ∷ [])
one_is_set b valid = rising_is_set b [] (valid, tt) tt

-- so are ballots 1, 9 and 14
pub three_are_set : IsBallotSet example three
three_are_set = rising_is_set _ _ (spells_1.valid, (spells_9.valid, (spells_14.valid, tt))) (omega arith, (omega arith, tt))

-- and ballot 22 with them
pub four_are_set : IsBallotSet example four
four_are_set = rising_is_set _ _ (spells_1.valid, (spells_9.valid, (spells_14.valid, (spells_22.valid, tt)))) (omega arith, (omega arith, (omega arith, tt)))

-- a ballot with no mark is valid
unmarked : (number : ℕ) → 1 ≤ number → number < 2 ^ 64 → IsValid example (example_ballot number 0 0)
unmarked number some short = valid number 0 0 some short (omega arith) (omega arith)

-- the ballots of the full store are a set
pub full_is_set : IsBallotSet example full
full_is_set = rising_is_set _ _ (
  unmarked 1 (omega arith) (omega arith),
  (
    unmarked 2 (omega arith) (omega arith),
    (
      unmarked 6 (omega arith) (omega arith),
      (
        unmarked 9 (omega arith) (omega arith),
        (unmarked 14 (omega arith) (omega arith), (unmarked 17 (omega arith) (omega arith), (unmarked 22 (omega arith) (omega arith), (unmarked 18446744073709551615 (omega arith) (omega arith), tt)))),
      ),
    ),
  ),
)
    (omega arith, (omega arith, (omega arith, (omega arith, (omega arith, (omega arith, (omega arith, tt)))))))

-- two tabulators cast the three
pub close_of_three : ClosesCastingOnlySo [] ((example_ballot 9 1 0 ∷ example_ballot 1 2 5 ∷ []) ∷ (example_ballot 14 0 2 ∷ []) ∷ [])
    (all_accepted_effect ((example_ballot 9 1 0 ∷ example_ballot 1 2 5 ∷ []) ∷ (example_ballot 14 0 2 ∷ []) ∷ []) three)
close_of_three =
    all_accepted_close ((example_ballot 9 1 0 ∷ example_ballot 1 2 5 ∷ []) ∷ (example_ballot 14 0 2 ∷ []) ∷ []) three three_are_set (omega arith)
    (IsPermutation-append_left (example_ballot 14 0 2 ∷ []) _ _ (IsPermutation-append_comm (example_ballot 9 1 0 ∷ []) (example_ballot 1 2 5 ∷ [])))
