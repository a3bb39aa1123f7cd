use Rattle.step_core.proofs.CastAtRest.{claim_is_new}
use Rattle.step_core.proofs.laws.cast.what_is_claimed_is_new.Goals as goal

pub returns : goal.returns
returns c = λ t base words views id view x k h stands from free.
    let new = claim_is_new t base words views id view x k h stands from free in
    (new.not_accepted, new.not_taken, new.not_full)
