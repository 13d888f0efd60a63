-- What a step in place gives, and what then stands there.
use Rattle.std.specs.declared.boxed.Box.{Box}
use Rattle.std.specs.declared.alloc.Global.{Global}
use Rattle.std.specs.declared.option.Option.{Option}
use Rattle.std.specs.declared.option.Option.TheVariants.{None, Some}
use Rattle.stream_prefix.specs.Tree.{prefix_of}
use Rattle.core_term.specs.Run.{Run}
use Rattle.delta_state.specs.StateTree.{StateTree}
use Rattle.delta_code.specs.declared.told.Told.{Told}
use Rattle.template_state.specs.declared.live.Live.{Live}
use Rattle.template_state.specs.Readers.{state_in}

-- the run that a result stands for
abbrev pub told : Told → Run
told a = record { out = prefix_of a.output.value; calls = a.calls; level = a.level }

-- the state that takes the place of another one, or that one
abbrev pub left_after : Option (Box Live Global) → StateTree → StateTree
left_after None s = s
left_after (Some b) s = state_in b.value
