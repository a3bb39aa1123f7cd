-- What a casting phase makes of the ballots in its lists, in whatever order its steps came.
use Rattle.std.specs.Prelude.{◌≡◌, ◌≢◌, ℕ, Bool, true, false, List, ◌++◌, length, map, flat_map, filter, All, AllPairs, Any, Contains, IsPermutation}
use Rattle.store_spec.specs.Ballot.{Ballot, IsBallotSet, IsWithinLimit}
use Rattle.store_spec.specs.Election.{Election}

-- What a ballot is answered: it is accepted here; the same ballot is in the set without this line; so is another one
-- with its number; there was no room for it.
pub data CastReply : Type 0 where
  Accepted : CastReply
  Duplicate : CastReply
  Conflict : CastReply
  Full : CastReply

-- a ballot of a list, and its reply
pub record CastLine : Type 0 where
  pub ballot : Ballot
  pub reply : CastReply

abbrev pub is_accepted : CastReply → Bool
is_accepted Accepted = true
is_accepted Duplicate = false
is_accepted Conflict = false
is_accepted Full = false

-- the ballots that are accepted, list by list
abbrev pub accepted_in : List (List CastLine) → List Ballot
accepted_in lists = flat_map (λ lines. map (λ l. l.ballot) (filter (λ l. is_accepted l.reply) lines)) lists

-- a ballot of the set has this number
abbrev pub HasNumber : List Ballot → ℕ → Type 0
HasNumber ballots number = Any (λ b. b.number ≡ number) ballots

-- what a reply says of its ballot, where the phase leads from one set to another
abbrev pub IsRightReply : Election → List Ballot → List Ballot → Ballot → CastReply → Type 0
IsRightReply e base after b Accepted = ¬ HasNumber base b.number × Contains after b
IsRightReply e base after b Duplicate = Contains after b
IsRightReply e base after b Conflict = Any (λ other. (other.number ≡ b.number) × (other ≢ b)) after
IsRightReply e base after b Full = ¬ HasNumber after b.number × (length after ≡ e.limit)

-- One line may stand before another of its list: what is accepted was not answered before, and nothing is accepted once
-- there was no room.
abbrev pub MayBeCastBefore : CastLine → CastLine → Type 0
MayBeCastBefore earlier later =
    later.reply ≡ Accepted → (earlier.ballot.number ≢ later.ballot.number) × (earlier.reply ≢ Full)

-- The outcome of a casting phase from the set `base` to the set `after`: the set gains the ballots that are accepted and
-- nothing else, each number once, and every reply is right.
pub record BallotOutcome (e : Election) (base : List Ballot) (lists : List (List CastLine)) (after : List Ballot) : Type 0 where
  pub gains : IsPermutation (base ++ accepted_in lists) after
  pub set : IsBallotSet e after
  pub within_limit : IsWithinLimit e after
  pub replies : All (All (λ l. IsRightReply e base after l.ballot l.reply)) lists
  pub in_order : All (AllPairs MayBeCastBefore) lists
