-- What record lines build: a set of ballots, or the first bad line and why it is refused.
use Rattle.std.specs.Prelude.{◌≡◌, ◌≢◌, ℕ, ◌+◌, List, length, take, slice_get, Some, Contains, Any, IsPermutation, Result, Ok, Err}
use Rattle.std.specs.List.{AllZip}
use Rattle.store_spec.specs.Ballot.{Ballot, IsBallotSet, IsWithinLimit}
use Rattle.store_spec.specs.BallotLine.{IsRecordLine, Spells, IsLineOf}
use Rattle.store_spec.specs.Election.{Election}

-- why a line is refused
pub data Reason : Type 0 where
  Malformed : Reason
  Invalid : Reason
  Duplicate : Reason
  Conflict : Reason
  Full : Reason

-- the lines spell ballots, one for one, and these are a set that the election's store may hold
pub record Builds (e : Election) (lines : List (List ℕ)) (ballots : List Ballot) : Type 0 where
  pub listing : List Ballot
  pub each : AllZip (Spells e) lines listing
  pub same : IsPermutation listing ballots
  pub set : IsBallotSet e ballots
  pub within_limit : IsWithinLimit e ballots

-- The line is refused for this reason after lines that build this set. The first reason that fits counts.
abbrev pub IsRefused : Election → List Ballot → List ℕ → Reason → Type 0
IsRefused e before bytes Malformed = ¬ IsRecordLine e bytes
IsRefused e before bytes Invalid = IsRecordLine e bytes × ¬ IsLineOf e bytes
IsRefused e before bytes Duplicate = (b : Ballot) × Spells e bytes b × Contains before b
IsRefused e before bytes Conflict =
    (b : Ballot) × Spells e bytes b × Any (λ other. (other.number ≡ b.number) × (other ≢ b)) before
IsRefused e before bytes Full =
    (b : Ballot) × Spells e bytes b × ¬ Any (λ other. other.number ≡ b.number) before
    × (length before ≡ e.limit)

-- line number `at`, counted from 1, is the first bad one, for this reason: the lines before it build a set
pub record IsFirstBad (e : Election) (lines : List (List ℕ)) (at : ℕ) (why : Reason) : Type 0 where
  pub index : ℕ
  pub counted : at ≡ index + 1
  pub bytes : List ℕ
  pub stands : slice_get lines index ≡ Some bytes
  pub before : List Ballot
  pub good : Builds e (take index lines) before
  pub refused : IsRefused e before bytes why

-- what the lines build: a set of ballots, or the first bad line with its reason
abbrev pub BuiltFrom : Election → List (List ℕ) → Result (List Ballot) (ℕ × Reason) → Type 0
BuiltFrom e lines (Ok ballots) = Builds e lines ballots
BuiltFrom e lines (Err bad) = IsFirstBad e lines bad.0 bad.1
