-- What a sink of the system's standard output shows.
use Rattle.std.specs.Prelude.{ℕ, List, Option, None}
use Rattle.dv_outside.specs.declared.disk.StdSink.{StdSink}

-- Nothing is told of the bytes.
abbrev pub sink_bytes : {R : Type 0} → StdSink R → Option (List ℕ)
sink_bytes sink = None

-- The bytes that the system said it took.
abbrev pub taken_bytes : {R : Type 0} → StdSink R → List ℕ
taken_bytes sink = sink.log.bytes

-- How many calls failed.
abbrev pub failed_puts : {R : Type 0} → StdSink R → ℕ
failed_puts sink = sink.faults
