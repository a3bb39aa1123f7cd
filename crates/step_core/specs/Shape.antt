-- A shape of the code, as the definitions see it.
use Rattle.std.specs.Prelude.{ℕ}
use Rattle.step_core.specs.declared.shape.Shape.{Shape}
use Rattle.store_spec.specs.CastStep.{Table}
use Rattle.store_spec.specs.Home.{home_of}

-- the homes that its order gives
abbrev pub homes_of : Shape → ℕ → ℕ
homes_of shape = home_of shape.order.bits shape.order.salt

abbrev pub table_of : Shape → Table
table_of shape = record { home = homes_of shape; cells = shape.cells; claims = shape.claims }
