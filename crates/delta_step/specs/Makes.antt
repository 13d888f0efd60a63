-- What it is for a result to be the state, or the arguments, that were to be made.
use Rattle.std.specs.Prelude.{◌≡◌, Result, IfOk, map}
use Rattle.std.specs.declared.boxed.Box.{Box}
use Rattle.std.specs.declared.vec.Vec.{Vec}
use Rattle.std.specs.declared.alloc.Global.{Global}
use Rattle.stream_type.specs.declared.memory.Memory.{Memory}
use Rattle.delta_state.specs.declared.state.State.{State}
use Rattle.delta_state.specs.declared.state.Argument.{Argument}
use Rattle.delta_state.specs.PlainState.{PlainState, PlainArguments, state_of, argument_of, arguments_from}

-- the state that is made stands for this
abbrev pub Makes : Result (Box State Global) Memory → PlainState → Type 0
Makes result x = IfOk result (λ r. state_of r.value ≡ x)

-- the arguments that are made stand for these
abbrev pub MakesAll : Result (Vec Argument Global) Memory → PlainArguments → Type 0
MakesAll result args = IfOk result (λ v. arguments_from (map argument_of v.items) ≡ args)
