-- A store in parts: the set of each part, whose ballots belong there by the top bits of their numbers.
use Rattle.std.specs.Prelude.{◌≡◌, ◌⊎◌, ℕ, ◌^◌, ◌≤◌, ◌==◌, if◌then◌else◌, All, EachIndex, List, [], flat_map, get_or, length, map}
use Rattle.std.specs.List.{range_with_len}
use Rattle.store_spec.specs.Ballot.{Ballot, IsBallotSet, IsWithinLimit}
use Rattle.store_spec.specs.Election.{Election, IsElection}
use Rattle.store_spec.specs.Parts.{part_of, share}

-- its election, how many top bits tell the part of a number, and the sets of the parts in order
pub record Parted : Type 0 where
  pub election : Election
  pub bits : ℕ
  pub sets : List (List Ballot)

-- so many bits: there are 2, 4 or 8 parts
pub record AreBits (bits : ℕ) : Type 0 where
  pub some : 1 ≤ bits
  pub few : bits ≤ 3

-- each ballot of a set belongs to this part
abbrev pub BelongsTo : ℕ → ℕ → List Ballot → Type 0
BelongsTo bits part set = All (λ b. part_of bits b.number ≡ part) set

-- a set for each part, of ballots that belong there
pub record AreParts (bits : ℕ) (sets : List (List Ballot)) : Type 0 where
  pub count : length sets ≡ 2 ^ bits
  pub own : EachIndex sets (λ part. BelongsTo bits part (get_or sets part []))

-- a set that a store of the election may hold
abbrev pub IsPart : Election → List Ballot → Type 0
IsPart e set = IsBallotSet e set × IsWithinLimit e set

-- what a store in parts holds: each part may hold as many ballots as the election's store
pub record IsParted (store : Parted) : Type 0 where
  pub election : IsElection store.election
  pub bits : AreBits store.bits
  pub parts : AreParts store.bits store.sets
  pub sets : All (IsPart store.election) store.sets

-- ---- all parts together

-- the ballots of all sets, one set behind another
abbrev pub joined : List (List Ballot) → List Ballot
joined sets = flat_map (λ set. set) sets

-- the shares of a set, from part 0 on
abbrev pub shares : ℕ → List Ballot → List (List Ballot)
shares bits set = map (λ part. share bits part set) (range_with_len 0 (2 ^ bits))

-- ---- how many further media there are

-- 1, 3 or 7
abbrev pub AreFurther : ℕ → Type 0
AreFurther more = (more ≡ 1) ⊎ ((more ≡ 3) ⊎ (more ≡ 7))

-- how many bits tell the parts of one medium and so many further ones
abbrev pub bits_of : ℕ → ℕ
bits_of more = if more == 1 then 1 else if more == 3 then 2 else 3
