-- Whether a ballot has a number.
use Rattle.std.proofs.Common.{◌≡◌, ℕ, ⊎_elim, List, None, Some, true, false, is_some, ap}
use Rattle.store_spec.proofs.Common.{Ballot, Contains, ballot_of, numbers_of}
use Rattle.ballot_record.proofs.BallotNumbers.{ballot_with, contains_number}
use Rattle.ballot_record.proofs.Lookups.{found_in, missing_from, option_cases}
use Rattle.phase_find.specs.Present.{is_present}

-- one that some ballot has
pub present : (ballots : List Ballot) (number : ℕ) → Contains (numbers_of ballots) number
    → is_present ballots number ≡ true
present ballots number held =
    let with = ballot_with ballots number held in
    ⊎_elim
    (λ (missing : ballot_of ballots number ≡ None).
    absurd (missing_from ballots number missing with.0 with.1 with.2))
    (λ (some : (b : Ballot) × (ballot_of ballots number ≡ Some b)). ap is_some some.1)
    (option_cases (ballot_of ballots number))

-- one that no ballot has
pub absent : (ballots : List Ballot) (number : ℕ) → ¬ Contains (numbers_of ballots) number
    → is_present ballots number ≡ false
absent ballots number none = ⊎_elim
    (λ (missing : ballot_of ballots number ≡ None). ap is_some missing)
    (λ (held : (b : Ballot) × (ballot_of ballots number ≡ Some b)).
    let found = found_in ballots number held.0 held.1 in
    absurd (none (contains_number ballots held.0 number found.0 found.1)))
    (option_cases (ballot_of ballots number))
