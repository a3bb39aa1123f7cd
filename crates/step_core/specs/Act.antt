-- An act of the code, as the definitions see it.
use Rattle.step_core.specs.declared.act.Act.{Act}
use Rattle.step_core.specs.declared.act.Act.TheVariants as variants
use Rattle.store_spec.specs.Act as definition
use Rattle.store_spec.specs.Act.Act.{Nothing, Load, Swap, Trade}

abbrev pub act_of : Act → definition.Act
act_of variants.Nothing = Nothing
act_of (variants.Load word) = Load word
act_of (variants.Swap word put) = Swap word put
act_of (variants.Trade word want put) = Trade word want put
