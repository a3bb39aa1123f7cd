-- Counts of the program, as those of a set of ballots. Choice c + 1 of contest k + 1 stands at places c and k.
use Rattle.std.specs.Prelude.{◌≡◌, ◌≢◌, ℕ, ◌+◌, ◌-◌, ◌^◌, ◌<◌, ◌≤◌, [], nat_lt, if◌then◌else◌, List, count_ones, slice_index}
use Rattle.std.specs.Int.{bit_at}
use Rattle.std.specs.List.{slice_index_or}
use Rattle.store_spec.specs.Ballot.{Ballot}
use Rattle.store_spec.specs.Election.{Election}
use Rattle.store_spec.specs.Report.{overvotes, undervotes, votes}
use Rattle.tally_export.specs.declared.counts.Tally.{Tally}
use Rattle.ballot_record.specs.declared.version.TheConstants.{MAX_CONTESTS}
use Rattle.tally_export.specs.declared.counts.TheConstants.{CHOICES}

-- the counts of every choice and contest that there may be in any version
pub record IsTallyOf (e : Election) (ballots : List Ballot) (tally : Tally) : Type 0 where
  pub choices : (k c : ℕ) → k < MAX_CONTESTS → c < CHOICES
      → slice_index (slice_index_or tally.choices k []) c ≡ votes e ballots (k + 1) (c + 1)
  pub under : (k : ℕ) → k < MAX_CONTESTS → slice_index tally.under k ≡ undervotes e ballots (k + 1)
  pub over : (k : ℕ) → k < MAX_CONTESTS → slice_index tally.over k ≡ overvotes e ballots (k + 1)

-- the count of choice c + 1 of contest k + 1
abbrev pub choice_count : Tally → ℕ → ℕ → ℕ
choice_count tally k c = slice_index (slice_index_or tally.choices k []) c

-- no count is above this number
pub record IsUpTo (most : ℕ) (tally : Tally) : Type 0 where
  pub choices : (k c : ℕ) → k < MAX_CONTESTS → c < CHOICES → choice_count tally k c ≤ most
  pub under : (k : ℕ) → k < MAX_CONTESTS → slice_index tally.under k ≤ most
  pub over : (k : ℕ) → k < MAX_CONTESTS → slice_index tally.over k ≤ most

-- no sum of two counts is above 2^64 - 1
pub record SumsFit (one other : Tally) : Type 0 where
  pub choices : (k c : ℕ) → k < MAX_CONTESTS → c < CHOICES
      → choice_count one k c + choice_count other k c < 2 ^ 64
  pub under : (k : ℕ) → k < MAX_CONTESTS → slice_index one.under k + slice_index other.under k < 2 ^ 64
  pub over : (k : ℕ) → k < MAX_CONTESTS → slice_index one.over k + slice_index other.over k < 2 ^ 64

-- each count is the sum of two
pub record AddsUp (one other both : Tally) : Type 0 where
  pub choices : (k c : ℕ) → k < MAX_CONTESTS → c < CHOICES
      → choice_count both k c ≡ choice_count one k c + choice_count other k c
  pub under : (k : ℕ) → k < MAX_CONTESTS
      → slice_index both.under k ≡ slice_index one.under k + slice_index other.under k
  pub over : (k : ℕ) → k < MAX_CONTESTS
      → slice_index both.over k ≡ slice_index one.over k + slice_index other.over k

-- a mark set was counted in the contest at a place, where so many marks are allowed, and the other contests stay
pub record CountsSet (place allowed set : ℕ) (before now : Tally) : Type 0 where
  pub choices : (c : ℕ) → c < CHOICES → choice_count now place c
      ≡ choice_count before place c + (if nat_lt allowed (count_ones set) then 0 else bit_at set c)
  pub under : slice_index now.under place ≡ slice_index before.under place + (allowed - count_ones set)
  pub over : slice_index now.over place
      ≡ slice_index before.over place + (if nat_lt allowed (count_ones set) then 1 else 0)
  pub other_choices : (k : ℕ) → k ≢ place → slice_index_or now.choices k [] ≡ slice_index_or before.choices k []
  pub other_under : (k : ℕ) → k ≢ place → slice_index now.under k ≡ slice_index before.under k
  pub other_over : (k : ℕ) → k ≢ place → slice_index now.over k ≡ slice_index before.over k

-- what ballots add up to was added
pub record AddsBallots (e : Election) (ballots : List Ballot) (before now : Tally) : Type 0 where
  pub choices : (k c : ℕ) → k < MAX_CONTESTS → c < CHOICES
      → choice_count now k c ≡ choice_count before k c + votes e ballots (k + 1) (c + 1)
  pub under : (k : ℕ) → k < MAX_CONTESTS
      → slice_index now.under k ≡ slice_index before.under k + undervotes e ballots (k + 1)
  pub over : (k : ℕ) → k < MAX_CONTESTS
      → slice_index now.over k ≡ slice_index before.over k + overvotes e ballots (k + 1)
