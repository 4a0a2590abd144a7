-- What the adapters of streams stand on.
use Rattle.std.specs.Prelude.{Bool}
use Rattle.vt_host.specs.declared.source.StdSource.{StdSource}
use Rattle.vt_host.specs.declared.sink.StdSink.{StdSink}
use Rattle.vt_host.specs.declared.link.StdLink.{StdLink}
use Rattle.vt_host.specs.declared.terminal.Erasing.{Erasing}

-- the reader that a source takes from
abbrev pub source_input : {R : Type 0} → StdSource R → R
source_input source = source.input

-- the writer that a sink puts to
abbrev pub sink_output : {W : Type 0} → StdSink W → W
sink_output sink = sink.output

-- the two directions of a link
abbrev pub link_source : {R W : Type 0} → StdLink R W → StdSource R
link_source link = link.source

-- the half of a connection that is written
abbrev pub link_sink : {R W : Type 0} → StdLink R W → StdSink W
link_sink link = link.sink

-- the writer that is standard error
abbrev pub erasing_output : {W : Type 0} → Erasing W → W
erasing_output erasing = erasing.output

-- whether it is a terminal
abbrev pub erases : {W : Type 0} → Erasing W → Bool
erases erasing = erasing.is_terminal
