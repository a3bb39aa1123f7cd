-- A source that never fails.
use Rattle.std.specs.Prelude.{ℕ, List, drop}
use Rattle.outside_io.specs.declared.sure.SureSource.{SureSource}

abbrev pub sure_left : SureSource → List ℕ
sure_left source = drop source.at source.bytes.items
