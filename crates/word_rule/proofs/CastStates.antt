-- What the code's states are not, as the table has them.
use Rattle.std.proofs.Common.{◌≢◌, ℕ, refl}
use Rattle.store_spec.proofs.Common.{Carrying, Probing}
use Rattle.step_core.specs.CastTables.{state_of}
use Rattle.step_core.specs.declared.cast.CastState.{CastState}
use Rattle.step_core.specs.declared.cast.CastState.TheVariants as states

pub not_probing : (state : CastState) → ((x k : ℕ) → state ≢ states.Probing x k) → (x k : ℕ) → state_of state ≢ Probing x k
not_probing states.Rest other x k same = absurd cc
not_probing (states.Probing y j) other x k same = absurd (other y j refl)
not_probing (states.Carrying v i) other x k same = absurd cc
not_probing (states.Ready v i s) other x k same = absurd cc

pub not_carrying : (state : CastState) → ((v i : ℕ) → state ≢ states.Carrying v i) → (v i : ℕ) → state_of state ≢ Carrying v i
not_carrying states.Rest other v i same = absurd cc
not_carrying (states.Probing x k) other v i same = absurd cc
not_carrying (states.Carrying w j) other v i same = absurd (other w j refl)
not_carrying (states.Ready w j s) other v i same = absurd cc
