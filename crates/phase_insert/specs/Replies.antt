-- What a reply says of the ballot that is cast, and of the seat from which it is cast.
use Rattle.std.specs.Prelude.{◌≡◌, ◌↔◌, Contains}
use Rattle.phase_kind.specs.Phase.{OpenPhase}
use Rattle.phase_insert.specs.Gains.{Gains, IsNewTo, StepsFor}
use Rattle.phase_insert.specs.Tray.{AnotherHas, ComparesWithBase}
use Rattle.phase_insert.specs.declared.reply.CastReply.{CastReply}
use Rattle.phase_insert.specs.declared.reply.CastReply.TheVariants.{Accepted, Duplicate, Conflict}
use Rattle.step_core.specs.Shape.{table_of}
use Rattle.store_spec.specs.Ballot.{Ballot, IsValid}
use Rattle.store_spec.specs.CastStep.{CastView}

-- The ballot is valid, and the reply compares it with those that are held: what was held is answered without a step. The
-- seat gained its number and made the steps for it, and where it was accepted, its number was new to the seat.
pub record IsReply (phase : OpenPhase) (old : CastView) (b : Ballot) (reply : CastReply) (now : CastView) : Type 0 where
  pub valid : IsValid phase.base.election b
  pub compares : ComparesWithBase phase.base.ballots b reply
  pub gains : Gains phase.words.shape.claims old b.number reply now
  pub steps : StepsFor (table_of phase.words.shape) old b.number reply now
  pub duplicate : reply ≡ Duplicate ↔ Contains phase.base.ballots b
  pub conflict : reply ≡ Conflict ↔ AnotherHas phase.base.ballots b
  pub new : reply ≡ Accepted → IsNewTo phase.words.shape.claims old b.number
