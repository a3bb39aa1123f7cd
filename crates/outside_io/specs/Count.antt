-- A count that stays at its last value.
use Rattle.std.specs.Prelude.{ℕ}
use Rattle.outside_io.specs.declared.count.Count.{Count}

abbrev pub count_value : Count → ℕ
count_value count = count.value
