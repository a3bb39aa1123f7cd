-- What the parts of a close hand on.
use Rattle.std.specs.Prelude.{◌≡◌, ◌≢◌, List, length, map, flat_map, zip, All, Some}
use Rattle.phase_insert.specs.Closing.{trays_beside}
use Rattle.phase_insert.specs.Tray.{Cast, IsTrayOf, ballots_that, is_accepted}
use Rattle.phase_insert.specs.declared.reply.CastReply.{CastReply}
use Rattle.phase_insert.specs.declared.reply.CastReply.TheVariants as casts
use Rattle.phase_insert.specs.declared.reply.Final.{Final}
use Rattle.phase_insert.specs.declared.reply.Final.TheVariants as finals
use Rattle.store_spec.specs.Ballot.{Ballot, ballot_of}
use Rattle.phase_kind.specs.Worker.{WorkerView}
use Rattle.store_spec.specs.CastStep.{CastView}

-- a tabulator, as callers see it
abbrev pub TabulatorView : Type 0
TabulatorView = WorkerView CastView Ballot CastReply

-- its tray tells the lists of its seat
abbrev pub TellsOf : TabulatorView → Type 0
TellsOf tab = IsTrayOf tab.phase tab.seat tab.tray

-- the ballots that trays accepted
abbrev pub all_accepted : List (List Cast) → List Ballot
all_accepted trays = flat_map (ballots_that is_accepted) trays

-- a ballot whose number was taken is compared with the one of the set that has it
abbrev pub Decides : List Ballot → Ballot → Final → Type 0
Decides after b finals.Accepted = ⊥
Decides after b finals.Duplicate = ballot_of after b.number ≡ Some b
Decides after b finals.Conflict = ballot_of after b.number ≢ Some b
Decides after b finals.Full = ⊥

abbrev pub IsAnswer : List Ballot → Ballot → CastReply → Final → Type 0
IsAnswer after b casts.Accepted final = final ≡ finals.Accepted
IsAnswer after b casts.Duplicate final = final ≡ finals.Duplicate
IsAnswer after b casts.Conflict final = final ≡ finals.Conflict
IsAnswer after b casts.Taken final = Decides after b final
IsAnswer after b casts.Full final = final ≡ finals.Full

abbrev pub IsAnswered : List Ballot → Cast × Final → Type 0
IsAnswered after told = IsAnswer after told.0.item told.0.reply told.1

-- the final replies to the ballots of a tray
pub record AreFinals (after : List Ballot) (tray : List Cast) (finals : List Final) : Type 0 where
  pub as_many : length finals ≡ length tray
  pub each : All (IsAnswered after) (zip tray finals)

-- the same of all trays
pub record AreAllFinals (after : List Ballot) (trays : List (List Cast)) (finals : List (List Final)) : Type 0 where
  pub as_many : map length finals ≡ map length trays
  pub each : All (All (IsAnswered after)) (trays_beside trays finals)
