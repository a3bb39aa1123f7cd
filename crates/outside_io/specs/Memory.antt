-- A source and a sink in memory, which fail at calls that are known before.
use Rattle.std.specs.Prelude.{ℕ, ◌+◌, ◌<◌, ◌⊎◌, List, length, drop, Contains}
use Rattle.outside_io.specs.declared.memory.MemorySource.{MemorySource}
use Rattle.outside_io.specs.declared.memory.MemorySink.{MemorySink}
use Rattle.store_spec.specs.Fault.{next_count}

-- the bytes that the source has left, the calls so far, the numbers of those that are to fail, counted from 1, and how
-- many failed
abbrev pub source_left : MemorySource → List ℕ
source_left source = drop source.at source.bytes.items

abbrev pub source_calls : MemorySource → ℕ
source_calls source = source.calls.value

abbrev pub source_failing : MemorySource → List ℕ
source_failing source = source.failing.items

abbrev pub source_faults : MemorySource → ℕ
source_faults source = source.faults.value

-- the bytes that the sink has taken, how many it may take, the calls so far, the numbers of those that are to fail, and
-- how many failed
abbrev pub sink_taken : MemorySink → List ℕ
sink_taken sink = sink.taken.items

abbrev pub sink_room : MemorySink → ℕ
sink_room sink = sink.room

abbrev pub sink_calls : MemorySink → ℕ
sink_calls sink = sink.calls.value

abbrev pub sink_failing : MemorySink → List ℕ
sink_failing sink = sink.failing.items

abbrev pub sink_faults : MemorySink → ℕ
sink_faults sink = sink.faults.value

-- a call with these bytes fails: its number is one of those that are to fail, or there is no room for them
abbrev pub IsFailing : MemorySink → List ℕ → Type 0
IsFailing sink bytes = Contains (sink_failing sink) (next_count (sink_calls sink)) ⊎ (sink_room sink < length (sink_taken sink) + length bytes)
