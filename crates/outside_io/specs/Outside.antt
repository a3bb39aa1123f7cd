-- What a run meets outside, as it stands at one moment: what a source has left and what a sink has taken, where they
-- tell, and how often each has failed.
use Rattle.std.specs.Prelude.{◌≡◌, ℕ, ◌≤◌, List, [], length, Option}
use Rattle.outside_io.specs.Told.{IfTold}
use Rattle.store_spec.specs.Input.{script_limit}

-- a source of type S
pub record Input (S : Type 0) : Type 0 where
  pub state : S
  pub left : Option (List ℕ)
  pub faults : ℕ

-- a sink of type K
pub record Output (K : Type 0) : Type 0 where
  pub state : K
  pub taken : Option (List ℕ)
  pub faults : ℕ

-- what a command meets: the script's source, and the sink
pub record Outside (S K : Type 0) : Type 0 where
  pub script : Input S
  pub sink : Output K

-- an object, seen by the members of its trait
abbrev pub input : {S : Type 0} → (S → Option (List ℕ)) → (S → ℕ) → S → Input S
input left faults source = record { state = source; left = left source; faults = faults source }

abbrev pub output : {K : Type 0} → (K → Option (List ℕ)) → (K → ℕ) → K → Output K
output taken faults sink = record { state = sink; taken = taken sink; faults = faults sink }

abbrev pub outside : {S K : Type 0} → Input S → Output K → Outside S K
outside script sink = record { script = script; sink = sink }

-- nothing failed
pub record NoFault {S K : Type 0} (before after : Outside S K) : Type 0 where
  pub script : after.script.faults ≡ before.script.faults
  pub sink : after.sink.faults ≡ before.sink.faults

-- ---- a script

-- the script was read to its end, within its limit
abbrev pub IsReadOut : List ℕ → List ℕ → Type 0
IsReadOut text left = (length text ≤ script_limit) × (left ≡ [])

-- a relation of what the script's source had left before and has now, where it tells
abbrev pub OfScript : {S K : Type 0} → Outside S K → Outside S K → (List ℕ → List ℕ → Type 0) → Type 0
OfScript before after Related = IfTold before.script.left after.script.left Related

-- the script was refused, as this says, and the sink was left alone
pub record RefusesScript {S K : Type 0} (before after : Outside S K) (Why : List ℕ → List ℕ → Type 0) : Type 0 where
  pub why : OfScript before after Why
  pub untouched : after.sink ≡ before.sink
