use Rattle.clap.specs.Matches.{found_of}
use Rattle.large_options.proofs.Parses.{values_read}
use Rattle.large_options.proofs.options.options_of.Goals as goal

pub returns : goal.returns
returns c =
    values_read _ (found_of c.in_ok-matches.matches) c.value_of.result c.value_of-2.result c.value_of-3.result c.in_ok-matches.ensures
    c.value_of.ensures c.value_of-2.ensures c.value_of-3.ensures c.value_of.type_inv c.value_of-2.type_inv c.value_of-3.type_inv
