use Rattle.phase_delete.proofs.Sessions.{closes_session}
use Rattle.phase_delete.proofs.laws.a_session_may_close_so.Goals as goal

pub returns : goal.returns
returns c = closes_session
