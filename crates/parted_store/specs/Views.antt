-- The disks of a store in parts as what is said of them.
use Rattle.std.specs.Prelude.{List}
use Rattle.parted_store.specs.Leads.{PartsState}
use Rattle.parted_store.specs.declared.disks.Parts.{Parts}

-- the first disk, and the further ones
abbrev pub both_of : {P A B : Type 0} {p : _} {a : _} {b : _} → Parts P A B p a b → A × List B
both_of parts = (parts.first.now, parts.more.now)

abbrev pub state_of : {P A B : Type 0} {p : _} {a : _} {b : _} → Parts P A B p a b → PartsState A B
state_of parts = record {
  disks = both_of parts;
  first_name = parts.first.ghost_name;
  more_name = parts.more.ghost_name;
  failed = parts.failed;
}
