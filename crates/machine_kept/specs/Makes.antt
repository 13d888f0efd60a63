-- What it is for a result to be what was to be made, and what stands in boxes.
use Rattle.std.specs.declared.boxed.Box.{Box}
use Rattle.std.specs.declared.alloc.Global.{Global}
use Rattle.delta_state.specs.StateTree.{StateTree}
use Rattle.delta_keep.specs.declared.kept.KeptState.{KeptState}
use Rattle.delta_keep.specs.KeptView.{state_of}
use Rattle.template_state.specs.declared.live.Live.{Live}
use Rattle.template_state.specs.Readers.{state_in}
pub use Rattle.template_state.specs.Makes.{Makes}

-- what a state in a box stands for, kept
abbrev pub kept_in : Box KeptState Global → StateTree
kept_in s = state_of s.value

-- and live
abbrev pub live_in : Box Live Global → StateTree
live_in s = state_in s.value
