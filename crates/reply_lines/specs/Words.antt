-- The words for what a number met in a casting phase.
use Rattle.std.specs.Prelude.{ℕ, List, codes}
use Rattle.store_spec.specs.Phase.{Met}
use Rattle.store_spec.specs.Phase.Met.{Held, Accepted, Taken, Full}

abbrev pub met_text : Met → List ℕ
met_text Held = codes "held"
met_text Accepted = codes "accepted"
met_text Taken = codes "taken"
met_text Full = codes "full"
