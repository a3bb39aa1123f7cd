-- Which set a stop leaves on one of two disks, and what the next run makes of that disk beside a lost one.
use Rattle.std.specs.Prelude.{◌≡◌, ◌⊎◌, ℕ, ◌<◌, ◌≤◌, List, [], ◌∷◌, Any}
use Rattle.run_outcome.specs.Row.{Content, NothingFailed, OfOne, Tells}
use Rattle.run_outcome.specs.World.{Reported, World}
use Rattle.run_outcome.specs.declared.status.Status.{Status}
use Rattle.store_spec.specs.Ballot.{Ballot}
use Rattle.store_spec.specs.Disk.{DiskModel, after_calls}
use Rattle.store_spec.specs.Election.{Election}
use Rattle.store_spec.specs.Medium.{HoldsSet, IsUnused}
use Rattle.twin_commands.specs.Twin.{TwinHasBegun, twin_row}
use Rattle.twin_media.specs.Pairing.{IsPairSet}

-- ---- the set that stands

-- The sets that may stand at a moment, where `set` stood at first: the one that was acknowledged last before it, and the
-- next one, which was being checkpointed. The others are as in what a stop of a session leaves.
abbrev pub StandsAt : ℕ → List Ballot → List ℕ → List (List Ballot) → List (List Ballot) → List Ballot → Type 0
StandsAt moment set [] [] tried one = Any (λ other. one ≡ other) (set ∷ tried)
StandsAt moment set (mark ∷ marks) (next ∷ others) tried one =
    ((moment ≤ after_calls mark) × Any (λ other. one ≡ other) (set ∷ next ∷ []))
    ⊎ ((after_calls mark < moment) × StandsAt moment next marks others tried one)
StandsAt moment set marks acknowledged tried one = ⊥

-- ---- before two disks are a pair

-- a disk still holds its own set, or holds that of the pair already
abbrev pub HoldsOwnOr : Election → List ℕ → List ℕ → List Ballot → List ℕ → Type 0
HoldsOwnOr e one two own image = HoldsSet e image own ⊎ ((set : List Ballot) × IsPairSet e one two set × HoldsSet e image set)

-- a lost disk is lost still, or holds that of the pair already
abbrev pub IsLostOr : Election → List ℕ → List ℕ → List ℕ → Type 0
IsLostOr e one two image = IsUnused e image ⊎ ((set : List Ballot) × IsPairSet e one two set × HoldsSet e image set)

-- ---- the next run

-- one of the two disks has these bytes, and the other is lost
abbrev pub IsLeftAlone : Election → List ℕ → Content → Type 0
IsLeftAlone e image content = (lost : List ℕ) × IsUnused e lost
    × (((content.disk ≡ image) × (content.more ≡ lost ∷ [])) ⊎ ((content.disk ≡ lost) × (content.more ≡ image ∷ [])))

-- both disks became the medium of this set, and a session began on them
abbrev pub BringsBack : {S K D : Type 0} → DiskModel D → Election → List Ballot → Status → Reported → World S K D → World S K D → Type 0
BringsBack model e set status report before after =
    OfOne (λ two two_after. (begun : TwinHasBegun model e status report before.streams.script after.streams.script before.streams.sink
    after.streams.sink before.disk after.disk two two_after) × (begun.set ≡ set)) before.more after.more

-- A run of `twin` in which no call failed, under this election, over two disks of which one has these bytes and the other
-- is lost.
pub record RunsOnOne {S K D : Type 0} (model : DiskModel D) (e : Election) (image : List ℕ) (status : Status) (report : Reported)
    (before after : World S K D) : Type 0 where
  pub content : Content
  pub tells : Tells model twin_row.touches before content
  pub alone : IsLeftAlone e image content
  pub none_failed : NothingFailed model twin_row.touches before after
  pub ends : twin_row.ends model e status report before after
