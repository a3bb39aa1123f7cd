-- Which share a stop leaves of a part, and what the next run makes of parts that were left with shares of two sets.
use Rattle.std.specs.Prelude.{◌≡◌, ◌⊎◌, ℕ, ◌≤◌, List, [], ◌∷◌, ◌++◌, get_or, length, map, Option, Bool, true}
use Rattle.part_commands.specs.Part.{PartsHaveBegun, part_row}
use Rattle.parted_store.specs.Slots.{models_of}
use Rattle.partition_store.specs.Parted.{bits_of}
use Rattle.run_outcome.specs.Row.{Content, NothingFailed, Tells}
use Rattle.run_outcome.specs.World.{Reported, World}
use Rattle.run_outcome.specs.declared.status.Status.{Status}
use Rattle.session_run.specs.History.{LosesNothing, column}
use Rattle.store_spec.specs.Ballot.{Ballot}
use Rattle.store_spec.specs.Disk.{DiskModel}
use Rattle.store_spec.specs.Election.{Election}
use Rattle.store_spec.specs.Medium.{HoldsSet}
use Rattle.store_spec.specs.Parts.{of_parts, share}
use Rattle.store_spec.specs.Session.{Effect, PlaysBy, State, acknowledged_in, begun}

-- ---- what a stop leaves

-- From the start of the run on, of each of these parts: up to each mark a crash leaves its share of the set that was
-- acknowledged before it, or of the next one. The sets are those that the lines acknowledged, and at most one more, the
-- set that was held then: it was acknowledged `last`, by a line whose reply was not all written, or `tried` in vain.
pub record LosesNoShare {D : Type 0} (model : DiskModel D) (e : Election) (set : List Ballot) (report : Reported)
    (one after : D) (more now : List D) (parts : ℕ → Bool) : Type 0 where
  pub lines : List (Option (List ℕ))
  pub effects : List Effect
  pub state : State
  pub plays : PlaysBy (of_parts (bits_of (length more)) e) e 1 (begun set) lines effects state
  pub last : List (List Ballot)
  pub tried : List (List Ballot)
  pub at_most : (last ++ tried ≡ []) ⊎ (last ++ tried ≡ state.set ∷ [])
  pub each : (part : ℕ) → part ≤ length more → parts part ≡ true
      → LosesNothing (models_of model model part) e (share (bits_of (length more)) part set) (one, more) (after, now)
      (column report.marks report.others part)
      (map (share (bits_of (length more)) part) (acknowledged_in effects ++ last))
      (map (share (bits_of (length more)) part) tried)

-- ---- the next run

-- the medium of a part holds its share of this set
abbrev pub HoldsShare : Election → Content → ℕ → List Ballot → Type 0
HoldsShare e content part set =
    HoldsSet e (get_or (content.disk ∷ content.more) part []) (share (bits_of (length content.more)) part set)

-- A run of `part` in which no call failed, over these media, of which each holds its part's share of one of two sets.
pub record RunsOnTwo {S K D : Type 0} (model : DiskModel D) (e : Election) (old other : List Ballot) (content : Content)
    (status : Status) (report : Reported) (before after : World S K D) : Type 0 where
  pub tells : Tells model part_row.touches before content
  pub each : (part : ℕ) → part ≤ length content.more
      → HoldsShare e content part old ⊎ HoldsShare e content part other
  pub none_failed : NothingFailed model part_row.touches before after
  pub ends : part_row.ends model e status report before after

-- the medium of a part holds its share of `held`, which is also its share of this set
abbrev pub HoldsShareOf : Election → Content → ℕ → List Ballot → List Ballot → Type 0
HoldsShareOf e content part set held =
    HoldsShare e content part held
    × (share (bits_of (length content.more)) part set ≡ share (bits_of (length content.more)) part held)

-- A session began with the set of which each part has the share that its medium held, be that of the one set or of the
-- other.
pub record BeginsOfTwo {S K D : Type 0} (model : DiskModel D) (e : Election) (old other : List Ballot)
    (content : Content) (status : Status) (report : Reported) (before after : World S K D) : Type 0 where
  pub begun : PartsHaveBegun model e status report before.streams.script after.streams.script before.streams.sink
      after.streams.sink before.disk after.disk before.more after.more
  pub each : (part : ℕ) → part ≤ length content.more
      → HoldsShareOf e content part begun.set old ⊎ HoldsShareOf e content part begun.set other
