use Rattle.std.proofs.Common.{refl}
use Rattle.std.specs.Fmt.{digits}
use Rattle.store_spec.specs.BallotLine.{choices_in}
use Rattle.store_spec.specs.Election.{in_version}
use Rattle.std.specs.Int.RustNames.{count_ones}
use Rattle.session_laws.proofs.Spelled.{exports, tallies}
use Rattle.session_laws.proofs.Steps.{ends, plays_only_so, step}
use Rattle.session_laws.proofs.tallied_and_exported.Goals as goal

pub returns : goal.returns
unfolding choices_in digits count_ones in_version
returns c = record { is = plays_only_so (step tallies (step exports (ends 3 _))) _ refl }
