-- The entries that are used are enough.
use Rattle.std.proofs.Common.{◌≡◌, ◌∙◌, ◌++◌, List, map, ap}
use Rattle.stream_type.specs.StreamType.{type_of}
use Rattle.stream_prefix.specs.Tree.{prefix_of}
use Rattle.delta_state.specs.StateTree.{HeldName, free_in_state}
use Rattle.delta_state.specs.StateMeaning.{types_held, prefixes_held, run_state}
use Rattle.delta_state.specs.Rest.{rest_of}
use Rattle.machine_parts.specs.declared.entry.Entry.{Entry}
use Rattle.machine_parts.specs.Entry.{entry_in}
use Rattle.machine_parts.specs.AwaitedTree.{awaited_in, entries_on}
use Rattle.template_state.specs.Readers.{state_in}
use Rattle.template_state.specs.Templates.{bodies_in}
use Rattle.delta_code.specs.Beside.{used_of}
use Rattle.delta_code.specs.Steps.{funs_of}
use Rattle.delta_code.proofs.SideBySide.{used_run, used_rest}
use Rattle.delta_code.proofs.beside.step_used.Goals as goal
use Rattle.delta_code.proofs.GoingOn.{same_goes}

pub returns : goal.returns
returns c =
    let a = c.args in
    let funs = bodies_in a.code.now in
    let entries = entries_on (awaited_in a.awaited.now) (prefix_of a.next.now) in
    let s = state_in a.state.now in
    let r = type_of a.output.now in
    let used = used_of (free_in_state s) entries in
    let same : map entry_in c.deref.result.now ≡ used =
    ap (map entry_in) c.deref.ensures.value ∙ (c.in-Ok.ensures ∙ ap (λ (l : List Entry). map entry_in l ++ used) c.new-entries.ensures.items) in
    c.settled.ensures _ _ _ _
    (same_goes
    (ap (λ (l : List HeldName). run_state (funs_of a.code.now) s (types_held l) r (prefixes_held l)) same ∙ used_run funs entries s r)
    (ap (λ (l : List HeldName). rest_of (funs_of a.code.now) s (types_held l) r (prefixes_held l)) same ∙ used_rest funs entries s r c.requires)
    c.step_state-told.ensures)
