-- What a stop at any moment of a session leaves on the disk: up to each checkpoint the set that was acknowledged before
-- it, or the one that is being checkpointed. `may_leave` is what a crash at a moment may leave, and moments are told by
-- how many calls were made.
use Rattle.std.specs.Prelude.{ℕ, List, [], ◌∷◌, Any}
use Rattle.store_spec.specs.Ballot.{Ballot}
use Rattle.store_spec.specs.Disk.{EachCrashImage, after_calls}
use Rattle.store_spec.specs.Election.{Election}
use Rattle.store_spec.specs.Medium.{HoldsSet, IsMediumOf}

-- at each moment from one to another a crash leaves a medium that holds one of these sets
abbrev pub HoldsOneOf : Election → (ℕ → List ℕ → Type 0) → ℕ → ℕ → List (List Ballot) → Type 0
HoldsOneOf e may_leave from to sets =
    EachCrashImage may_leave (after_calls from) (after_calls to) (λ image. Any (HoldsSet e image) sets)

-- after so many calls a crash leaves the medium of this set and nothing else
abbrev pub LeavesMediumOf : Election → (ℕ → List ℕ → Type 0) → ℕ → List Ballot → Type 0
LeavesMediumOf e may_leave calls set = (image : List ℕ) → may_leave (after_calls calls) image → IsMediumOf e image set

-- From one moment to another, where `set` was held at the first. `marks` are the moments at which the `acknowledged` sets
-- were so, in order, and `tried` is the set of a checkpoint that did not end well, if there is one.
abbrev pub HoldsAcknowledged : Election → (ℕ → List ℕ → Type 0) → ℕ → List Ballot → List ℕ → List (List Ballot) → List (List Ballot) → ℕ → Type 0
HoldsAcknowledged e may_leave from set [] [] tried to = HoldsOneOf e may_leave from to (set ∷ tried)
HoldsAcknowledged e may_leave from set (mark ∷ marks) (next ∷ others) tried to =
    HoldsOneOf e may_leave from mark (set ∷ next ∷ [])
    × LeavesMediumOf e may_leave mark next
    × HoldsAcknowledged e may_leave mark next marks others tried to
HoldsAcknowledged e may_leave from set marks acknowledged tried to = ⊥
