-- A twin as its parts.
use Rattle.outside_io.specs.Count.{count_value}
use Rattle.twin_media.specs.State.{TwinState}
use Rattle.twin_media.specs.declared.twin.Twin.{Twin}

abbrev pub state_of : {A B : Type 0} {a : _} {b : _} → Twin A B a b → TwinState A B
state_of twin = record {
  first = twin.first.now;
  second = twin.second.now;
  first_name = twin.first.ghost_name;
  second_name = twin.second.ghost_name;
  first_begun = twin.first_begun;
  second_begun = twin.second_begun;
  passed = twin.passed;
  failed = twin.failed;
  calls = twin.calls;
  faults = count_value twin.faults;
}
