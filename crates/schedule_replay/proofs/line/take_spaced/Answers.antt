use Rattle.std.proofs.Common.{Some, [], ◌∷◌}
use Rattle.store_spec.proofs.Common.{Decides-eqb}
use Rattle.std.proofs.lemmas.Slice.Eq.{strip_prefix_is}
use Rattle.schedule_replay.proofs.Numbers.{takes_first}
use Rattle.schedule_replay.proofs.line.take_spaced.Goals as goal

pub returns : goal.returns
returns c =
    takes_first c.args.bytes.now c.in_ok-rest.rest.now _ (strip_prefix_is Decides-eqb c.args.bytes.now (32 ∷ []) (Some c.in_ok-rest.rest) c.in_ok-rest.ensures.cases) c.take_number.ensures
