-- The text of an election decides how a run ends that it ends, but for faults and want of memory.
use Rattle.std.proofs.Common.{◌≡◌, ℕ, ◌<◌, ◌≤◌, List, length, Some, refl, arith}
use Rattle.store_spec.proofs.Common.{Election}
use Rattle.run_command.specs.ElectionText.{GivesElection, RefusesElection, election_limit}
use Rattle.run_outcome.proofs.Laws.{not_risen}
use Rattle.run_outcome.specs.Status.{IsDecided}
use Rattle.run_outcome.specs.World.{IsSteady}
use Rattle.run_outcome.specs.declared.status.Status.{Status}
use Rattle.run_outcome.specs.declared.status.Status.TheVariants as status
use Rattle.run_outcome.specs.declared.status.Which.TheVariants as which
use Rattle.election_def.specs.Text.{Describes, IsElectionText}
use Rattle.outside_io.proofs.Told.{told_at}
use Rattle.outside_io.specs.Outside.{Input}

-- the status that the text of an election decides
abbrev pub DecidesElection : List ℕ → Status → Type 0
DecidesElection text status.BadElection = (length text ≤ election_limit) × ¬ IsElectionText text
DecidesElection text (status.TooLong which.Election) = election_limit < length text
DecidesElection text other = ⊥

pub refusal_decides : {E : Type 0} (a : Status) (old new : Input E) (text : List ℕ) → old.left ≡ Some text → IsDecided a → RefusesElection a old new → DecidesElection text a
refusal_decides status.BadElection old new text is decided refused = let read = (told_at text is refused.0).1 in (read.0.0, read.1)
refusal_decides (status.TooLong which.Election) old new text is decided refused = let read = (told_at text is refused.0).1 in omega arith
refusal_decides (status.ReadFault which) old new text is decided refused = absurd decided
refusal_decides status.Memory old new text is decided refused = absurd decided
refusal_decides other old new text is decided refused = refused

pub election_decides_one : (text : List ℕ) (a b : Status) → DecidesElection text a → DecidesElection text b → a ≡ b
election_decides_one text status.BadElection status.BadElection x y = refl
election_decides_one text status.BadElection (status.TooLong which.Election) x y = absurd (omega arith)
election_decides_one text (status.TooLong which.Election) status.BadElection x y = absurd (omega arith)
election_decides_one text (status.TooLong which.Election) (status.TooLong which.Election) x y = refl
election_decides_one text a b x y = absurd (assumption (x, y))

-- a text that describes an election is not refused
pub none_refused : (text : List ℕ) (a : Status) (e : Election) → length text ≤ election_limit → Describes text e → DecidesElection text a → ⊥
none_refused text status.BadElection e few describes refused = refused.1 (e, describes)
none_refused text (status.TooLong which.Election) e few describes refused = omega arith
none_refused text other e few describes refused = refused

-- where the election is described and its source did not fail, it is refused for want of memory alone
pub election_or_memory : {E : Type 0} (a : Status) (old new : Input E) (e : Election) → GivesElection old e → IsSteady old.faults new.faults → RefusesElection a old new → a ≡ status.Memory
election_or_memory status.Memory old new e gives steady refused = refl
election_or_memory (status.ReadFault which.Election) old new e gives steady refused = absurd (not_risen old.faults new.faults steady refused.1)
election_or_memory status.BadElection old new e gives steady refused = absurd (none_refused gives.text status.BadElection e gives.within gives.describes (refusal_decides status.BadElection old new gives.text gives.told tt refused))
election_or_memory (status.TooLong which.Election) old new e gives steady refused = absurd (none_refused gives.text (status.TooLong which.Election) e gives.within gives.describes (refusal_decides (status.TooLong which.Election) old new gives.text gives.told tt refused))
election_or_memory other old new e gives steady refused = absurd refused
