use Rattle.std.proofs.Common.{refl}
use Rattle.std.specs.Fmt.{digits}
use Rattle.std.specs.Int.RustNames.{count_ones}
use Rattle.store_spec.specs.BallotLine.{choices_in}
use Rattle.store_spec.specs.Election.{in_version}
use Rattle.store_spec.proofs.report_figures.example_reports.Goals as goal

pub returns : goal.returns
unfolding choices_in digits count_ones in_version
returns c = record { tally = refl; export = refl }
