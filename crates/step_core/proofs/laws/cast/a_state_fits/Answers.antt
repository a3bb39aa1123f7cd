use Rattle.std.proofs.Common.{refl}
use Rattle.step_core.proofs.CastSteps.{finds_at, fits_at}
use Rattle.step_core.proofs.laws.cast.a_state_fits.Goals as goal

pub returns : goal.returns
returns c = record {
  fits = λ t base words views id view room h stands. fits_at t base words views id view room h stands view.state refl;
  finds = λ t base words views id view room h stands moving. finds_at t base words views id view room h stands view.state refl moving;
}
