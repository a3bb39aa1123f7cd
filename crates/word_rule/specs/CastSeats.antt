-- What one step of a seat of casting tells, and what is kept of the words.
use Rattle.std.specs.Prelude.{◌≡◌, ◌≢◌, ◌⊎◌, ℕ, List, [], Contains}
use Rattle.atomic_table.specs.Table.{Me, Step}
use Rattle.step_core.specs.CastTables.{FitsIn, LeadsTo, MayFind}
use Rattle.step_core.specs.Shape.{table_of}
use Rattle.step_core.specs.declared.shape.Shape.{Shape}
use Rattle.store_spec.specs.CastInvariant.{CastInvariant, HasRoomFor}
use Rattle.store_spec.specs.CastStep.{CastNote, CastState, CastView, Table, cast_measure, cast_number, cast_view_after}
use Rattle.store_spec.specs.CastStep.CastNote.{Quiet, Claimed, Taken, Full, Placed}
use Rattle.store_spec.specs.CastStep.CastState.{Probing, Rest}
use Rattle.store_spec.specs.Layout.{numbers_in}
use Rattle.store_spec.specs.Measure.{Falls}
use Rattle.word_rule.specs.Chain.{Chain}
use Rattle.word_rule.specs.declared.seats.Known.{Known}

-- the casting invariant over the words and all views
pub record IsCast (shape : Shape) (base words : List ℕ) (views : List CastView) : Type 0 where
  pub room : HasRoomFor (table_of shape) (numbers_in base)
  pub invariant : CastInvariant (table_of shape) (numbers_in base) words views

-- such seats are made, and taken in by others
abbrev pub IsAtRest : CastView → Type 0
IsAtRest view = view.state ≡ Rest

-- A number that the seat has accepted or found taken is neither claimed nor met full claim words for. Once the seat has
-- met full claim words it claims no more, and a number that it met them for is not found taken.
pub record IsToldAlike (view : CastView) (number : ℕ) (note : CastNote) : Type 0 where
  pub again : Contains view.accepted number ⊎ Contains view.taken number → (note ≢ Claimed) × (note ≢ Full)
  pub no_room : view.full ≢ [] → note ≢ Claimed
  pub full_again : Contains view.full number → note ≢ Taken

-- one row of the table from a state: the word that is found leads to the new state, with this note, and the list that the
-- note names grows by the number
pub record MakesRow (t : Table) (from : CastState) (old : CastView) (note : CastNote) (now : CastView) : Type 0 where
  pub found : ℕ
  pub leads : LeadsTo t from found now.state note
  pub is : now ≡ cast_view_after old (cast_number from) now.state note

-- a row from the state of the view before it
abbrev pub MakesNextRow : Table → CastView → CastNote → CastView → Type 0
MakesNextRow t old note now = MakesRow t old.state old note now

-- A chain of rows for a number: its first step, for which no claim word was tried yet, and then a row from each state
-- that a step led to. Each row names a word that the step found.
abbrev pub CastsByRows : Table → ℕ → CastView → CastView → Type 0
CastsByRows t number old now = Chain (MakesRow t (Probing number 0)) (MakesNextRow t) old now

-- the last of some probes for a number, of which those before told nothing
pub record Probes (t : Table) (number : ℕ) (old : CastView) (told : CastNote) (now : CastView) : Type 0 where
  pub tries : ℕ
  pub row : MakesRow t (Probing number tries) old told now

-- what is told of a number that was cast
abbrev pub IsAnswerNote : CastNote → Type 0
IsAnswerNote Quiet = ⊥
IsAnswerNote Claimed = Unit {0}
IsAnswerNote Taken = Unit {0}
IsAnswerNote Full = Unit {0}
IsAnswerNote Placed = ⊥

-- what a step from a state tells of the word that it found and of the seat after it
pub record StepsFrom (from : CastState) (me : Me (Unit {0}) (Known CastView)) (found : ℕ) (now : Me (Unit {0}) (Known CastView)) : Type 0 where
  pub new : CastState
  pub note : CastNote
  pub may_find : MayFind from found
  pub leads : LeadsTo (table_of me.0.shape) from found new note
  pub is : now ≡ (record me.0 { view = cast_view_after me.0.view (cast_number from) new note }, me.1)
  pub fits : FitsIn (table_of me.0.shape) new
  pub told_alike : IsToldAlike me.0.view (cast_number from) note
  pub falls : Falls (cast_measure (table_of me.0.shape) new) (cast_measure (table_of me.0.shape) from)

-- a step from the seat's own state
abbrev pub goes_on : Step (Unit {0}) → Me (Unit {0}) (Known CastView) → ℕ → Me (Unit {0}) (Known CastView) → Type 0
goes_on step me found now = StepsFrom me.0.view.state me found now

-- the first step of the number that the step is to put
abbrev pub begins : Step (Unit {0}) → Me (Unit {0}) (Known CastView) → ℕ → Me (Unit {0}) (Known CastView) → Type 0
begins step me found now = StepsFrom (Probing step.second 0) me found now
