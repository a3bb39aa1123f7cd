-- The ballots of the lines so far, and what the next line does to them.
use Rattle.std.specs.Prelude.{◌≡◌, ◌≢◌, ℕ, List, ◌++◌, [], ◌∷◌, length, Contains, Any, Result, Ok, Err}
use Rattle.ballot_record.specs.Record.{ballot}
use Rattle.ballot_record.specs.LineWhy.{reason}
use Rattle.ballot_record.specs.declared.record.Record.{Record}
use Rattle.ballot_record.specs.declared.fault.LineWhy.TheVariants.{Malformed, Invalid, Duplicate, Conflict, Full}
use Rattle.script_commands.specs.Index.{IsIndexOf}
use Rattle.script_commands.specs.declared.build.ballots.Ballots.{Ballots}
use Rattle.script_commands.specs.declared.build.ballots.Refusal.{Refusal}
use Rattle.script_commands.specs.declared.build.ballots.Refusal.TheVariants.{Bad, Memory}
use Rattle.store_spec.specs.Ballot.{Ballot, IsListing, IsWithinLimit, numbers_of}
use Rattle.store_spec.specs.BallotLine.{Spells}
use Rattle.store_spec.specs.Build.{IsRefused}
use Rattle.store_spec.specs.Election.{Election}

-- the ballots of the lines so far, in the order of the lines
abbrev pub ballots_so_far : Ballots → List Ballot
ballots_so_far ballots = ballots.list.ballots

-- the election that they are of
abbrev pub election_of : Ballots → Election
election_of ballots = ballots.list.election

-- each ballot is found by its number
abbrev pub IsIndexed : Ballots → Type 0
IsIndexed ballots = IsIndexOf ballots.index (numbers_of (ballots_so_far ballots))

-- the ballots so far are the listing of a set that the election's store may hold, and are found by their numbers
pub record AreGoodBallots (e : Election) (ballots : Ballots) : Type 0 where
  pub election : ballots.list.election ≡ e
  pub listing : IsListing e (ballots_so_far ballots)
  pub within_limit : IsWithinLimit e (ballots_so_far ballots)
  pub indexed : IsIndexed ballots

-- what becomes of a valid ballot after those of the lines before
abbrev pub Adds : Result (Unit {0}) Refusal → Election → Record → Ballots → Ballots → Type 0
Adds (Ok done) e r old new = (ballots_so_far new ≡ ballots_so_far old ++ ballot r ∷ []) × AreGoodBallots e new
Adds (Err (Bad Duplicate)) e r old new = Contains (ballots_so_far old) (ballot r)
Adds (Err (Bad Conflict)) e r old new = Any (λ other. (other.number ≡ r.number) × (other ≢ ballot r)) (ballots_so_far old)
Adds (Err (Bad Full)) e r old new = ¬ Any (λ other. other.number ≡ r.number) (ballots_so_far old) × (length (ballots_so_far old) ≡ e.limit)
Adds (Err (Bad Malformed)) e r old new = ⊥
Adds (Err (Bad Invalid)) e r old new = ⊥
Adds (Err Memory) e r old new = Unit {0}

-- a line was judged: its ballot came behind the others, or it is refused for a reason
abbrev pub Judges : Result (Unit {0}) Refusal → Election → List ℕ → Ballots → Ballots → Type 0
Judges (Ok done) e line old new = (b : Ballot) × Spells e line b × (ballots_so_far new ≡ ballots_so_far old ++ b ∷ []) × AreGoodBallots e new
Judges (Err (Bad why)) e line old new = IsRefused e (ballots_so_far old) line (reason why)
Judges (Err Memory) e line old new = Unit {0}
