-- The words of a casting phase.
use Rattle.std.specs.Prelude.{◌≡◌, ◌+◌, ℕ, length}
use Rattle.body_store.specs.Contents.{Contents}
use Rattle.phase_kind.specs.Phase.{AreWordsOfStore}
use Rattle.word_rule.specs.Seats.{SharedWords}

-- a claim word for each ballot that a store has room for
abbrev pub claims_left : Contents → ℕ → Type 0
claims_left base claims = length base.ballots + claims ≡ base.election.limit

abbrev pub AreCastWordsOf : Contents → SharedWords → Type 0
AreCastWordsOf base words = AreWordsOfStore claims_left base words
