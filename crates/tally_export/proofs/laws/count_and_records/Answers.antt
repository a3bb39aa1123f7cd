use Rattle.std.proofs.Common.{refl}
use Rattle.tally_export.proofs.laws.count_and_records.Goals as goal

pub returns : goal.returns
returns c = λ e ballots. refl
