-- What the adapters over readers and writers are made of.
use Rattle.std.specs.Prelude.{ℕ}
use Rattle.port.specs.declared.stream.StreamLink.{StreamLink}
use Rattle.port.specs.declared.stream.StreamSink.{StreamSink}

-- the reader of a link
abbrev pub input_of : {R W : Type 0} → StreamLink R W → R
input_of link = link.input

-- the writer of a link
abbrev pub output_of : {R W : Type 0} → StreamLink R W → W
output_of link = link.output

-- how many reads of a link have failed
abbrev pub failed_reads : {R W : Type 0} → StreamLink R W → ℕ
failed_reads link = link.read_faults

-- how many writes of a link have failed
abbrev pub failed_writes : {R W : Type 0} → StreamLink R W → ℕ
failed_writes link = link.write_faults

-- the writer of a sink
abbrev pub notes_to : {W : Type 0} → StreamSink W → W
notes_to sink = sink.output

-- how many writes of a sink have failed
abbrev pub failed_notes : {W : Type 0} → StreamSink W → ℕ
failed_notes sink = sink.faults
