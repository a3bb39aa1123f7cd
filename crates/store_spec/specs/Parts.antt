-- A store in parts: which ballots belong to which, by the top bits of their numbers, and what a close asks of all parts.
use Rattle.std.specs.Prelude.{◌≡◌, ℕ, ◌-◌, ◌/◌, ◌^◌, ◌<◌, ◌==◌, List, map, filter}
use Rattle.store_spec.specs.Ballot.{Ballot, IsBallotSet, numbers_of}
use Rattle.store_spec.specs.BallotPhase.{BallotOutcome, CastLine}
use Rattle.store_spec.specs.Election.{Election}
use Rattle.store_spec.specs.Session.{Closes, Effect, ballots_without, cast_text, closing, withdraw_text}
use Rattle.store_spec.specs.WithdrawPhase.{Withdrawal, WithdrawOutcome, listed}

-- The part of a number, counted from 0: its top bits, so that the parts in order have the numbers in order. With 0 bits
-- there is one part.
abbrev pub part_of : ℕ → ℕ → ℕ
part_of bits number = number / 2 ^ (64 - bits)

-- what of a list belongs to one part by its number, in the list's order
abbrev pub of_part : {X : Type 0} → (X → ℕ) → ℕ → ℕ → List X → List X
of_part number bits part xs = filter (λ x. part_of bits (number x) == part) xs

-- the share of a set that one part holds
abbrev pub share : ℕ → ℕ → List Ballot → List Ballot
share bits part set = of_part (λ b. b.number) bits part set

-- The replies of a casting phase that goes by parts, and the set after it: each part has the outcome of a casting phase
-- over its own share and its own lines, within the election's limit for itself.
pub record ClosesCastingInParts (bits : ℕ) (e : Election) (set : List Ballot) (lists : List (List Ballot)) (effect : Effect) : Type 0 where
  pub lines : List (List CastLine)
  pub of_lists : map (map (λ l. l.ballot)) lines ≡ lists
  pub after : List Ballot
  pub is_set : IsBallotSet e after
  pub outcome : (part : ℕ) → part < 2 ^ bits
      → BallotOutcome e (share bits part set) (map (of_part (λ l. l.ballot.number) bits part) lines) (share bits part after)
  pub is : effect ≡ closing (map (map (λ l. cast_text l.reply)) lines) after

-- the same of a withdrawing phase
pub record ClosesWithdrawingInParts (bits : ℕ) (set : List Ballot) (lists : List (List ℕ)) (effect : Effect) : Type 0 where
  pub lines : List (List Withdrawal)
  pub of_lists : map (map (λ a. a.number)) lines ≡ lists
  pub after : List Ballot
  pub rest : after ≡ ballots_without set (listed lines)
  pub outcome : (part : ℕ) → part < 2 ^ bits
      → WithdrawOutcome (numbers_of (share bits part set)) (map (of_part (λ a. a.number) bits part) lines)
      (numbers_of (share bits part after))
  pub is : effect ≡ closing (map (map (λ a. withdraw_text a.reply)) lines) after

-- what a close asks of a store in 2 ^ bits parts
abbrev pub of_parts : ℕ → Election → Closes
of_parts bits e = record { casting = ClosesCastingInParts bits e; withdrawing = ClosesWithdrawingInParts bits }
