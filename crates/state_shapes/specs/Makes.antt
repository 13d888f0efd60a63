-- What it is for a result to be what was to be made, and what stands in boxes.
use Rattle.std.specs.declared.boxed.Box.{Box}
use Rattle.std.specs.declared.alloc.Global.{Global}
use Rattle.stream_prefix.specs.declared.prefix.Prefix.{Prefix}
use Rattle.stream_prefix.specs.StreamPrefix.{StreamPrefix}
use Rattle.stream_prefix.specs.Tree.{prefix_of}
use Rattle.hist_value.specs.declared.history.Value.{Value}
use Rattle.hist_value.specs.HistValue.{HistValue, hist_value_of}
use Rattle.delta_state.specs.StateTree.{StateTree}
use Rattle.template_state.specs.declared.live.Live.{Live}
use Rattle.template_state.specs.Readers.{state_in}
pub use Rattle.template_state.specs.Makes.{Makes}

-- the state in a box
abbrev pub boxed_state : Box Live Global → StateTree
boxed_state s = state_in s.value

-- the value in a box
abbrev pub boxed_value : Box Value Global → HistValue
boxed_value v = hist_value_of v.value

-- the prefix in a box
abbrev pub boxed_prefix : Box Prefix Global → StreamPrefix
boxed_prefix p = prefix_of p.value
