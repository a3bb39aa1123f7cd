-- What a phase of a store in parts that is played to its end leads to: a reply to each item of its lists, and the ballots
-- of each part after it.
use Rattle.std.specs.Prelude.{◌≡◌, ℕ, ◌^◌, ◌<◌, All, Bool, List, [], get_or, length, map, zip, Some, slice_get}
use Rattle.phase_find.specs.Present.{is_present}
use Rattle.store_spec.specs.Ballot.{Ballot, numbers_of}
use Rattle.store_spec.specs.BallotPhase.{BallotOutcome, CastLine, CastReply}
use Rattle.store_spec.specs.Election.{Election}
use Rattle.store_spec.specs.Parts.{of_part, part_of, share}
use Rattle.store_spec.specs.Session.{ballots_without}
use Rattle.store_spec.specs.WithdrawPhase.{Withdrawal, WithdrawOutcome, WithdrawReply, listed}

-- These ballots have these replies. Those that go to a part have the outcome of a casting phase over the part's own set.
pub record PlaysCastingInParts (bits : ℕ) (e : Election) (base : List (List Ballot)) (work : List (List Ballot)) (replies : List (List CastReply)) (after : List (List Ballot)) : Type 0 where
  pub lines : List (List CastLine)
  pub of_work : map (map (λ l. l.ballot)) lines ≡ work
  pub of_replies : map (map (λ l. l.reply)) lines ≡ replies
  pub parts : length after ≡ length base
  pub outcome : (part : ℕ) (old new : List Ballot) → slice_get base part ≡ Some old → slice_get after part ≡ Some new
      → BallotOutcome e old (map (of_part (λ l. l.ballot.number) bits part) lines) new

-- These numbers have these replies. Those that go to a part have the outcome of a withdrawing phase over its own set.
pub record PlaysWithdrawingInParts (bits : ℕ) (base : List (List Ballot)) (work : List (List ℕ)) (replies : List (List WithdrawReply)) (after : List (List Ballot)) : Type 0 where
  pub lines : List (List Withdrawal)
  pub of_work : map (map (λ a. a.number)) lines ≡ work
  pub of_replies : map (map (λ a. a.reply)) lines ≡ replies
  pub parts : length after ≡ length base
  pub rest : (part : ℕ) (old new : List Ballot) → slice_get base part ≡ Some old → slice_get after part ≡ Some new
      → new ≡ ballots_without old (listed (map (of_part (λ a. a.number) bits part) lines))
  pub outcome : (part : ℕ) (old new : List Ballot) → slice_get base part ≡ Some old → slice_get after part ≡ Some new
      → WithdrawOutcome (numbers_of old) (map (of_part (λ a. a.number) bits part) lines) (numbers_of new)

-- whether the part of a number has a ballot of it
abbrev pub is_present_in : ℕ → List (List Ballot) → ℕ → Bool
is_present_in bits parts number = is_present (get_or parts (part_of bits number) []) number

-- of each of these numbers that is told
abbrev pub PlaysFindingInParts : ℕ → List (List Ballot) → List (List ℕ) → List (List Bool) → Type 0
PlaysFindingInParts bits parts work present = present ≡ map (map (is_present_in bits parts)) work

-- the sets of parts are the shares of a set
pub record AreSharesOf (bits : ℕ) (set : List Ballot) (parts : List (List Ballot)) : Type 0 where
  pub count : length parts ≡ 2 ^ bits
  pub each : (part : ℕ) → part < 2 ^ bits → slice_get parts part ≡ Some (share bits part set)

-- each ballot is in the part of its number
abbrev pub HoldTheirOwn : ℕ → List (List Ballot) → Type 0
HoldTheirOwn bits parts = (part : ℕ) (set : List Ballot) → slice_get parts part ≡ Some set → All (λ b. part_of bits b.number ≡ part) set

-- lists beside as many others
abbrev pub beside : {X Y : Type 0} → List (List X) → List (List Y) → List (List (X × Y))
beside lists others = map (λ both. zip both.0 both.1) (zip lists others)
