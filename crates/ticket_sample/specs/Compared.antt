-- Lines that are compared with a sample, and the replies to them.
use Rattle.std.specs.Prelude.{◌≡◌, ◌↔◌, ◌<◌, ℕ, List, AllPairs, Any, Contains, length, take, slice_get, Option, Some, None}
use Rattle.store_spec.specs.Ballot.{Ballot, numbers_of}
use Rattle.store_spec.specs.BallotLine.{IsLineOf, IsRecordLine, Spells}
use Rattle.store_spec.specs.Election.{Election}
use Rattle.ticket_sample.specs.declared.compare.CompareReply.{CompareReply}
use Rattle.ticket_sample.specs.declared.compare.CompareReply.TheVariants.{Malformed, Invalid, Outside, Repeated, Match, Differs}

-- The reply to the bytes of a line, where `Done` tells with which numbers an earlier line was compared: the first of
-- these that fits.
abbrev pub IsReplyTo : Election → List Ballot → (ℕ → Type 0) → List ℕ → CompareReply → Type 0
IsReplyTo e sample Done bytes Malformed = ¬ IsRecordLine e bytes
IsReplyTo e sample Done bytes Invalid = IsRecordLine e bytes × ¬ IsLineOf e bytes
IsReplyTo e sample Done bytes Outside = (b : Ballot) × Spells e bytes b × ¬ Contains (numbers_of sample) b.number
IsReplyTo e sample Done bytes Repeated = (b : Ballot) × Spells e bytes b × Contains (numbers_of sample) b.number × Done b.number
IsReplyTo e sample Done bytes Match = (b : Ballot) × Spells e bytes b × Contains sample b × ¬ Done b.number
IsReplyTo e sample Done bytes Differs =
    (b : Ballot) × Spells e bytes b × Contains (numbers_of sample) b.number × ¬ Contains sample b × ¬ Done b.number

-- a line, none where it is too wide, and the reply to it
pub record AnsweredLine : Type 0 where
  pub line : Option (List ℕ)
  pub reply : CompareReply

-- the reply tells what came of comparing
abbrev pub IsComparison : CompareReply → Type 0
IsComparison Match = Unit {0}
IsComparison Differs = Unit {0}
IsComparison other = ⊥

-- the line is that of a ballot with this number
abbrev pub IsOfNumber : Election → Option (List ℕ) → ℕ → Type 0
IsOfNumber e (Some bytes) number = (b : Ballot) × Spells e bytes b × (b.number ≡ number)
IsOfNumber e None number = ⊥

-- a line of this number was answered by what came of comparing
abbrev pub WasCompared : Election → List AnsweredLine → ℕ → Type 0
WasCompared e answers number = Any (λ one. IsOfNumber e one.line number × IsComparison one.reply) answers

-- the reply to a line, none where it is too wide
abbrev pub IsReplyOr : Election → List Ballot → (ℕ → Type 0) → Option (List ℕ) → CompareReply → Type 0
IsReplyOr e sample Done None reply = reply ≡ Malformed
IsReplyOr e sample Done (Some bytes) reply = IsReplyTo e sample Done bytes reply

-- a line has its reply behind others that were answered
abbrev pub IsCompareReply : Election → List Ballot → List AnsweredLine → AnsweredLine → Type 0
IsCompareReply e sample before one = IsReplyOr e sample (WasCompared e before) one.line one.reply

-- each line has its reply behind those before it
abbrev pub AreAnswered : Election → List Ballot → List AnsweredLine → Type 0
AreAnswered e sample answers =
    (place : ℕ) (one : AnsweredLine) → slice_get answers place ≡ Some one → IsCompareReply e sample (take place answers) one

-- so many ballots of the sample were compared with no line
pub record AreMissing (e : Election) (sample : List Ballot) (answers : List AnsweredLine) (count : ℕ) : Type 0 where
  pub rest : List Ballot
  pub ascending : AllPairs (λ a b. a.number < b.number) rest
  pub each : (b : Ballot) → Contains rest b ↔ (Contains sample b × ¬ WasCompared e answers b.number)
  pub counted : count ≡ length rest
