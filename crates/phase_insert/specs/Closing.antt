-- What the close of a casting phase tells.
use Rattle.std.specs.Prelude.{◌≡◌, ◌⊎◌, List, length, map, zip, All}
use Rattle.body_store.specs.Contents.{Contents}
use Rattle.phase_insert.specs.Tray.{Cast}
use Rattle.phase_insert.specs.declared.reply.CastReply.{CastReply}
use Rattle.phase_insert.specs.declared.reply.CastReply.TheVariants as casts
use Rattle.phase_insert.specs.declared.reply.Final.{Final}
use Rattle.phase_insert.specs.declared.reply.Final.TheVariants as finals
use Rattle.store_spec.specs.Ballot.{Ballot}
use Rattle.store_spec.specs.BallotPhase as reply
use Rattle.store_spec.specs.BallotPhase.{BallotOutcome, CastLine}

abbrev pub reply_of : Final → reply.CastReply
reply_of finals.Accepted = reply.CastReply.Accepted
reply_of finals.Duplicate = reply.CastReply.Duplicate
reply_of finals.Conflict = reply.CastReply.Conflict
reply_of finals.Full = reply.CastReply.Full

-- Only what was taken is answered anew: the two ballots with its number are the same, or not.
abbrev pub IsFinal : CastReply → Final → Type 0
IsFinal casts.Accepted final = final ≡ finals.Accepted
IsFinal casts.Duplicate final = final ≡ finals.Duplicate
IsFinal casts.Conflict final = final ≡ finals.Conflict
IsFinal casts.Taken final = (final ≡ finals.Duplicate) ⊎ (final ≡ finals.Conflict)
IsFinal casts.Full final = final ≡ finals.Full

-- trays beside the final replies to their ballots
abbrev pub trays_beside : List (List Cast) → List (List Final) → List (List (Cast × Final))
trays_beside trays finals = map (λ lists. zip lists.0 lists.1) (zip trays finals)

abbrev pub tray_line : Cast × Final → CastLine
tray_line told = record { ballot = told.0.item; reply = reply_of told.1 }

-- Each ballot of each tray has a final reply, and with these replies the ballots have the outcome of a casting phase.
pub record ClosesAs (base : Contents) (trays : List (List Cast)) (finals : List (List Final)) (after : List Ballot) : Type 0 where
  pub as_many : map length finals ≡ map length trays
  pub final : All (All (λ told. IsFinal told.0.reply told.1)) (trays_beside trays finals)
  pub outcome : BallotOutcome base.election base.ballots (map (map tray_line) (trays_beside trays finals)) after
