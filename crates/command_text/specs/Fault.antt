-- What a refused line is among the faults of inputs.
use Rattle.std.specs.Prelude.{ℕ}
use Rattle.delta_end.specs.declared.end.InputFault.{InputFault}
use Rattle.delta_end.specs.declared.end.InputFault.TheVariants as fault
use Rattle.command_text.specs.declared.fault.LineRefusal.{LineRefusal}
use Rattle.command_text.specs.declared.fault.LineRefusal.TheVariants.{Line, LongLine}

-- the fault of a line that is refused at this place
abbrev pub line_fault : LineRefusal → ℕ → InputFault
line_fault (Line why) place = fault.Line why place
line_fault LongLine place = fault.LongLine place
