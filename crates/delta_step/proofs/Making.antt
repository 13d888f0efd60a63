-- What is made, said otherwise.
use Rattle.std.proofs.Common.{◌≡◌, ◌∙◌, Result}
use Rattle.std.proofs.lemmas.Result.{IfOk-weaker}
use Rattle.std.specs.declared.boxed.Box.{Box}
use Rattle.std.specs.declared.alloc.Global.{Global}
use Rattle.stream_type.specs.declared.memory.Memory.{Memory}
use Rattle.delta_state.specs.declared.state.State.{State}
use Rattle.delta_state.specs.PlainState.{PlainState, state_of}
use Rattle.delta_step.specs.Makes.{Makes}

-- what is made stands for an equal state too
pub makes_same : (result : Result (Box State Global) Memory) (x y : PlainState) → x ≡ y → Makes result x → Makes result y
makes_same result x y e h = IfOk-weaker result (λ r. state_of r.value ≡ x) (λ r. state_of r.value ≡ y) (λ r k. k ∙ e) h
