-- What a number that is cast adds to the lists of its seat.
use Rattle.std.specs.Prelude.{◌≡◌, ◌≢◌, ◌⊎◌, ℕ, [], Contains}
use Rattle.phase_insert.specs.declared.reply.CastReply.{CastReply}
use Rattle.phase_insert.specs.declared.reply.CastReply.TheVariants.{Accepted, Duplicate, Conflict, Taken, Full}
use Rattle.store_spec.specs.CastStep as note
use Rattle.store_spec.specs.CastStep.{CastView, Table, cast_view_after}
use Rattle.store_spec.specs.CastStep.CastState.{Rest}
use Rattle.word_rule.specs.CastSeats.{CastsByRows}

-- The number is in the list that the reply names, and the seat is at rest. Where the base answers, or there are no claim
-- words, nothing changes.
abbrev pub Gains : ℕ → CastView → ℕ → CastReply → CastView → Type 0
Gains claims old number Accepted now = now ≡ cast_view_after old number Rest note.CastNote.Claimed
Gains claims old number Duplicate now = now ≡ old
Gains claims old number Conflict now = now ≡ old
Gains claims old number Taken now = now ≡ cast_view_after old number Rest note.CastNote.Taken
Gains claims old number Full now = ((claims ≡ 0) × (now ≡ old)) ⊎ (now ≡ cast_view_after old number Rest note.CastNote.Full)

-- The seat made the steps of the number, each a row of the table. Where the base answers, or there are no claim words, it
-- made none.
abbrev pub StepsFor : Table → CastView → ℕ → CastReply → CastView → Type 0
StepsFor t old number Accepted now = CastsByRows t number old now
StepsFor t old number Duplicate now = now ≡ old
StepsFor t old number Conflict now = now ≡ old
StepsFor t old number Taken now = CastsByRows t number old now
StepsFor t old number Full now = ((t.claims ≡ 0) × (now ≡ old)) ⊎ CastsByRows t number old now

-- a reply that the claim words give
abbrev pub IsMet : CastReply → Type 0
IsMet Accepted = Unit {0}
IsMet Duplicate = ⊥
IsMet Conflict = ⊥
IsMet Taken = Unit {0}
IsMet Full = Unit {0}

-- there are claim words, and the seat has neither accepted the number nor found it taken, and met no full claim words
pub record IsNewTo (claims : ℕ) (view : CastView) (number : ℕ) : Type 0 where
  pub some_claim : claims ≢ 0
  pub not_accepted : ¬ Contains view.accepted number
  pub not_taken : ¬ Contains view.taken number
  pub no_full : view.full ≡ []
