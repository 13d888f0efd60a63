-- What the objects in memory whose calls may fail are made of.
use Rattle.std.specs.Prelude.{ℕ, List, Vec, String}
use Rattle.std.specs.declared.alloc.Global.{Global}
use Rattle.port.specs.Calm.{files_in}
use Rattle.port.specs.declared.calm.CalmLink.{CalmLink}
use Rattle.port.specs.declared.calm.CalmSink.{CalmSink}
use Rattle.port.specs.declared.plan.Plan.{Plan}
use Rattle.port.specs.declared.memory.MemLink.{MemLink}
use Rattle.port.specs.declared.memory.MemShelf.{MemShelf}
use Rattle.port.specs.declared.memory.MemSink.{MemSink}

-- the reads and writes of a shelf, numbered together
abbrev pub calls_of : MemShelf → Plan
calls_of shelf = shelf.plan

-- the files of a shelf
abbrev pub files_of : MemShelf → List (String Global × Vec ℕ Global)
files_of shelf = files_in shelf.calm

-- the reads of a link
abbrev pub reads_of : MemLink → Plan
reads_of link = link.reads

-- the writes of a link
abbrev pub writes_of : MemLink → Plan
writes_of link = link.writes

-- the link itself, whose calls go through where they aren't to fail
abbrev pub link_in : MemLink → CalmLink
link_in link = link.calm

-- the writes of a sink
abbrev pub notes_of : MemSink → Plan
notes_of sink = sink.plan

-- the sink itself
abbrev pub sink_in : MemSink → CalmSink
sink_in sink = sink.calm
