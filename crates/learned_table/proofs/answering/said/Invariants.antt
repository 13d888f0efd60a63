-- The frames so far are those of the events seen so far.
use Rattle.std.proofs.Common.{◌≡◌, ◌++◌, take, map}
use Rattle.event_frame.specs.Frames.{frames}
use Rattle.other_numbers.specs.EventNumbers.{exchanged_event}
use Rattle.learned_table.specs.FoundNumbers.{number_in}
use Rattle.learned_table.proofs.answering.said.Given as goal

abbrev pub invariant-loop-event : goal.invariant-loop-event
invariant-loop-event l = l.out.items ≡ l.initial.out.items ++ frames l.version (map (exchanged_event (number_in l.found)) (take l.event-index l.step.said.items))
