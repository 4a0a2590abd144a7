-- What the streams in memory hold, and which of their calls fail.
use Rattle.std.specs.Prelude.{ℕ, List, take, drop}
use Rattle.vt_out.specs.declared.mem_source.MemSource.{MemSource}
use Rattle.vt_out.specs.declared.mem_sink.MemSink.{MemSink}

-- the bytes that were taken
abbrev pub source_given : MemSource → List ℕ
source_given s = take s.given s.content.items

-- the bytes that are left
abbrev pub source_left : MemSource → List ℕ
source_left s = drop s.given s.content.items

-- the lengths of its pieces, which are used in turn
abbrev pub source_pieces : MemSource → List ℕ
source_pieces s = s.pieces.items

-- the numbers of the calls that fail
abbrev pub source_failing : MemSource → List ℕ
source_failing s = s.plan.failing.items

-- the number of the next call
abbrev pub source_calls : MemSource → ℕ
source_calls s = s.plan.calls

-- how many calls have failed
abbrev pub source_faults : MemSource → ℕ
source_faults s = s.plan.faults

-- the bytes that were written
abbrev pub sink_written : MemSink → List ℕ
sink_written s = s.content.items

-- the most bytes that it holds
abbrev pub sink_room : MemSink → ℕ
sink_room s = s.room

-- the numbers of the calls that fail
abbrev pub sink_failing : MemSink → List ℕ
sink_failing s = s.plan.failing.items

-- the number of the next call
abbrev pub sink_calls : MemSink → ℕ
sink_calls s = s.plan.calls

-- how many calls have failed
abbrev pub sink_faults : MemSink → ℕ
sink_faults s = s.plan.faults
