-- A frame's body asks on entries for its parameters.
use Rattle.std.proofs.Common.{◌∙◌, List, map, ap}
use Rattle.std.proofs.lemmas.Result.{on_ok_weaker}
use Rattle.stream_type.specs.StreamType.{type_of}
use Rattle.machine_parts.specs.declared.entry.Entry.{Entry}
use Rattle.machine_parts.specs.Entry.{entry_in}
use Rattle.machine_parts.specs.Scope.{types_in, streams_in}
use Rattle.template_state.specs.Readers.{state_in, arguments_in}
use Rattle.delta_code.specs.Steps.{funs_of}
use Rattle.state_asks.proofs.AskedFrames.{body_asks}
use Rattle.state_asks.proofs.AskedInTurn.{asks_then, asks_same}
use Rattle.state_asks.proofs.states.+asks.Goals as goal

pub add_frame-returns : goal.add_frame-returns
add_frame-returns t c =
    let a = c.args in
    let names = ap (λ (l : List Entry). map entry_in l) c.deref.ensures.value ∙ c.in_ok-entries.ensures in
    let same = body_asks (funs_of a.code.now) (arguments_in a.args.now) (types_in a.scope.now) (streams_in a.scope.now) _ (state_in a.a.now) (type_of a.r.now) names in
    on_ok_weaker c.add_asks_of_state.result (λ h. asks_then c.in_ok-add_arguments.ensures (asks_same same h)) c.add_asks_of_state.ensures
