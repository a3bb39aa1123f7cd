-- The tray of a tabulator, and what it tells of the lists of its seat.
use Rattle.std.specs.Prelude.{◌≡◌, ◌≢◌, ℕ, Bool, true, false, List, length, map, filter, All, AllPairs, Any, Contains}
use Rattle.ballot_record.specs.BallotList.{ListedBallots}
use Rattle.phase_insert.specs.declared.reply.CastReply.{CastReply}
use Rattle.phase_insert.specs.declared.reply.CastReply.TheVariants.{Accepted, Duplicate, Conflict, Taken, Full}
use Rattle.phase_kind.specs.Phase.{OpenPhase}
use Rattle.phase_kind.specs.AnsweredItem.{AnsweredItem, answered_items}
use Rattle.phase_kind.specs.declared.tray.Tray.{Tray}
use Rattle.store_spec.specs.Ballot.{Ballot, IsValid}
use Rattle.store_spec.specs.BallotPhase.{HasNumber}
use Rattle.store_spec.specs.CastStep.{CastView}
use Rattle.store_spec.specs.CastStep.CastState.{Rest}

-- a ballot that was cast, and what it was answered
abbrev pub Cast : Type 0
Cast = AnsweredItem Ballot CastReply

-- the tray of a tabulator as the program has it
abbrev pub CastTray : Type 0
CastTray = Tray ListedBallots CastReply

abbrev pub casts_of : CastTray → List Cast
casts_of tray = answered_items tray.items.ballots tray.replies.items

-- a ballot at each place where a reply is
abbrev pub IsTrayPaired : CastTray → Type 0
IsTrayPaired tray = length tray.items.ballots ≡ length tray.replies.items

-- another ballot has its number
abbrev pub AnotherHas : List Ballot → Ballot → Type 0
AnotherHas ballots b = Any (λ other. (other.number ≡ b.number) × (other ≢ b)) ballots

-- what a reply says of its ballot and of those held at the opening
abbrev pub ComparesWithBase : List Ballot → Ballot → CastReply → Type 0
ComparesWithBase base b Accepted = ¬ HasNumber base b.number
ComparesWithBase base b Duplicate = Contains base b
ComparesWithBase base b Conflict = AnotherHas base b
ComparesWithBase base b Taken = ¬ HasNumber base b.number
ComparesWithBase base b Full = ¬ HasNumber base b.number

abbrev pub is_accepted : CastReply → Bool
is_accepted Accepted = true
is_accepted Duplicate = false
is_accepted Conflict = false
is_accepted Taken = false
is_accepted Full = false

-- each of its ballots was accepted
abbrev pub IsAllAccepted : CastTray → Type 0
IsAllAccepted tray = All (λ reply. reply ≡ Accepted) tray.replies.items

abbrev pub is_taken : CastReply → Bool
is_taken Accepted = false
is_taken Duplicate = false
is_taken Conflict = false
is_taken Taken = true
is_taken Full = false

abbrev pub is_full : CastReply → Bool
is_full Accepted = false
is_full Duplicate = false
is_full Conflict = false
is_full Taken = false
is_full Full = true

-- the ballots of a tray with such a reply, and their numbers
abbrev pub ballots_that : (CastReply → Bool) → List Cast → List Ballot
ballots_that is_such tray = map (λ c. c.item) (filter (λ c. is_such c.reply) tray)

abbrev pub numbers_that : (CastReply → Bool) → List Cast → List ℕ
numbers_that is_such tray = map (λ c. c.item.number) (filter (λ c. is_such c.reply) tray)

-- One ballot may stand before another of its tray: what is accepted was not answered before, and nothing is accepted once
-- there was no room.
abbrev pub MayPrecede : Cast → Cast → Type 0
MayPrecede earlier later = later.reply ≡ Accepted → (earlier.item.number ≢ later.item.number) × (earlier.reply ≢ Full)

-- The seat is at rest, its lists are what the tray tells, and each reply is right. Where there are no claim words, the seat
-- meets none that are full.
pub record IsTrayOf (phase : OpenPhase) (view : CastView) (tray : List Cast) : Type 0 where
  pub at_rest : view.state ≡ Rest
  pub accepted : numbers_that is_accepted tray ≡ view.accepted
  pub taken : numbers_that is_taken tray ≡ view.taken
  pub full : phase.words.shape.claims ≢ 0 → numbers_that is_full tray ≡ view.full
  pub valid : All (λ c. IsValid phase.base.election c.item) tray
  pub compared : All (λ c. ComparesWithBase phase.base.ballots c.item c.reply) tray
  pub in_order : AllPairs MayPrecede tray
