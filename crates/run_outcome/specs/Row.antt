-- What a command is, in one row.
use Rattle.std.specs.Prelude.{◌≡◌, ◌≢◌, ℕ, Bool, true, false, List, [], ◌∷◌, All, AllPairs, length, Option, Some}
use Rattle.std.specs.List.{AllZip}
use Rattle.run_outcome.specs.World.{IsSteady, Reported, World, nothing_reported}
use Rattle.run_outcome.specs.declared.status.Status.{Status}
use Rattle.run_outcome.specs.declared.status.Status.TheVariants.{Ok}
use Rattle.store_spec.specs.Disk.{DiskModel}
use Rattle.store_spec.specs.Election.{Election}
use Rattle.store_spec.specs.Medium.{HoldsSome}

-- ---- what a command touches

-- What a command touches beside the sink: whether it reads the script, whether it reads or writes the medium and the
-- further media, and whether it reports.
pub record Touches : Type 0 where
  pub script : Bool
  pub disk : Bool
  pub more : Bool
  pub report : Bool

-- it stays as it was, unless it is touched
abbrev pub StaysUnless : {A : Type 0} → Bool → A → A → Type 0
StaysUnless true before after = Unit {0}
StaysUnless false before after = after ≡ before

-- what a command does not touch is left alone
pub record LeavesAlone {S K D : Type 0} (touches : Touches) (report : Reported) (before after : World S K D) : Type 0 where
  pub script : StaysUnless touches.script before.streams.script after.streams.script
  pub disk : StaysUnless touches.disk before.disk after.disk
  pub more : StaysUnless touches.more before.more after.more
  pub reported : StaysUnless touches.report nothing_reported report

-- ---- nothing failed

-- no count of their faults rose, if they are touched
abbrev pub AreSteadyIf : {D : Type 0} → Bool → (D → ℕ) → List D → List D → Type 0
AreSteadyIf true faults before after = AllZip (λ old new. IsSteady (faults old) (faults new)) before after
AreSteadyIf false faults before after = Unit {0}

-- no count of faults rose
pub record NothingFailed {S K D : Type 0} (model : DiskModel D) (touches : Touches) (before after : World S K D) : Type 0 where
  pub script : IsSteady before.streams.script.faults after.streams.script.faults
  pub sink : IsSteady before.streams.sink.faults after.streams.sink.faults
  pub disk : IsSteady (model.faults before.disk) (model.faults after.disk)
  pub more : AreSteadyIf touches.more model.faults before.more after.more

-- ---- what a command reads

-- the bytes of the script, of the medium and of the further media
pub record Content : Type 0 where
  pub script : List ℕ
  pub disk : List ℕ
  pub more : List (List ℕ)

-- it tells these bytes, if it is touched
abbrev pub TellsIf : Bool → Option (List ℕ) → List ℕ → Type 0
TellsIf true told bytes = told ≡ Some bytes
TellsIf false told bytes = Unit {0}

-- each of them tells its bytes, if they are touched
abbrev pub EachTellsIf : {D : Type 0} → Bool → (D → Option (List ℕ)) → List D → List (List ℕ) → Type 0
EachTellsIf true seen disks bytes = AllZip (λ disk told. seen disk ≡ Some told) disks bytes
EachTellsIf false seen disks bytes = Unit {0}

-- what a command touches tells these bytes
pub record Tells {S K D : Type 0} (model : DiskModel D) (touches : Touches) (before : World S K D) (content : Content) : Type 0 where
  pub script : TellsIf touches.script before.streams.script.left content.script
  pub disk : TellsIf touches.disk (model.seen before.disk) content.disk
  pub more : EachTellsIf touches.more model.seen before.more content.more

-- ---- the row

-- All of a command:
--
--     word      the word that names it
--     further   which further words it takes
--     touches   what it reads and touches; whether its further words are media
--     served    that nothing stands against it: under this election, what it reads is what it needs
--     done      that it was carried out: with which status it ends then, and of which bytes
--     ends      its outcome: how it ends under an election, and what it does to what it touches
pub record Row : Type 1 where
  pub word : List ℕ
  pub further : List (List ℕ) → Type 0
  pub touches : Touches
  pub served : Election → Content → Type 0
  pub done : Election → Content → Status → Type 0
  pub ends : {S K D : Type 0} → DiskModel D → Election → Status → Reported → World S K D → World S K D → Type 0

-- the medium holds a set
abbrev pub HoldsAny : Election → Content → Type 0
HoldsAny e content = HoldsSome e content.disk

-- a command takes no further words
abbrev pub TakesNone : List (List ℕ) → Type 0
TakesNone words = words ≡ []

-- a command takes one further word, that of a medium
abbrev pub IsOne : List (List ℕ) → Type 0
IsOne words = length words ≡ 1

-- this is so of the only further disk, before and after
abbrev pub OfOne : {D : Type 0} → (D → D → Type 0) → List D → List D → Type 0
OfOne So (before ∷ []) (after ∷ []) = So before after
OfOne So more now = ⊥

-- a command that was carried out ends well
abbrev pub EndsWell : Election → Content → Status → Type 0
EndsWell e content status = status ≡ Ok

-- how a command ends under an election: as its row says, and with what it does not touch left alone
pub record CommandEnds {S K D : Type 0} (model : DiskModel D) (row : Row) (e : Election) (status : Status) (report : Reported) (before after : World S K D) : Type 0 where
  pub ends : row.ends model e status report before after
  pub leaves_alone : LeavesAlone row.touches report before after

-- ---- the words

abbrev pub DASH : ℕ
DASH = 45

-- a word that is read by its place: it is not empty, and does not begin with a dash
abbrev pub IsPlain : List ℕ → Type 0
IsPlain [] = ⊥
IsPlain (byte ∷ bytes) = byte ≢ DASH

-- Behind this word for the medium, these are words of further media, if a command touches some: each is read by its
-- place, and none is the medium's word or another's.
abbrev pub AreMediaIf : Bool → List ℕ → List (List ℕ) → Type 0
AreMediaIf true medium words = All IsPlain words × AllPairs (λ a b. a ≢ b) (medium ∷ words)
AreMediaIf false medium words = Unit {0}

-- behind this word for the medium, a name and further words are those of this row
pub record IsNamed (row : Row) (medium name : List ℕ) (words : List (List ℕ)) : Type 0 where
  pub word : name ≡ row.word
  pub further : row.further words
  pub media : AreMediaIf row.touches.more medium words
