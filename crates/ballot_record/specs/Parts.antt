-- An election from its parts, as a caller hands them in.
use Rattle.std.specs.Prelude.{ℕ, ◌≤◌, List, length, All}
use Rattle.ballot_record.specs.Contest.{contests_of}
use Rattle.ballot_record.specs.declared.contest.Contest.{Contest}
use Rattle.store_spec.specs.Election as definition

abbrev pub parts_of : ℕ → List Contest → List ℕ → ℕ → ℕ → ℕ → definition.Election
parts_of version contests styles limit bits salt = record {
  version = version;
  contests = contests_of contests;
  styles = styles;
  limit = limit;
  bits = bits;
  salt = salt;
}

-- what an election's rules say of its contests alone
pub record AreContests (most most_choices : ℕ) (contests : List definition.Contest) : Type 0 where
  pub some : 1 ≤ length contests
  pub few : length contests ≤ most
  pub each : All (definition.IsContestUpTo most_choices) contests

-- what they say of the styles over so many contests
pub record AreStyles (contests : ℕ) (styles : List ℕ) : Type 0 where
  pub some : 1 ≤ length styles
  pub few : length styles ≤ definition.most_styles
  pub each : All (definition.IsStyle contests) styles
