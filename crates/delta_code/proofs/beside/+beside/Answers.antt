-- A state that doesn't use the name rests, and of two beside each other each goes on by itself.
use Rattle.std.proofs.Common.{◌≡◌, ◌∙◌, ◌≤◌, false, ap, ap₂, sym, subst, arith}
use Rattle.std.proofs.lemmas.Bool.{not-true}
use Rattle.stream_type.specs.declared.ty.Ty.{Ty}
use Rattle.stream_type.specs.StreamType.{StreamType, type_of, par}
use Rattle.stream_prefix.specs.Tree.{prefix_of}
use Rattle.bunch.specs.Names.{holds}
use Rattle.delta_state.specs.StateTree.{StateTree, par_state, free_in_state}
use Rattle.machine_parts.specs.AwaitedTree.{awaited_in, entries_on}
use Rattle.machine_parts.specs.Heft.{heft}
use Rattle.template_state.specs.declared.live.Live.{Live}
use Rattle.template_state.specs.Readers.{state_in}
use Rattle.template_state.specs.Templates.{bodies_in}
use Rattle.delta_code.specs.Beside.{IsBeside}
use Rattle.delta_code.proofs.SideBySide.{untouched_on, gives_nothing, stays_as_it_is, beside_left, beside_right, side_ends}
use Rattle.delta_code.proofs.beside.+beside.Goals as goal

pub step_beside-returns-then-is_apart : goal.step_beside-returns-then-is_apart
step_beside-returns-then-is_apart t c =
    let a = c.args in
    let funs = bodies_in a.code.now in
    let entries = entries_on (awaited_in a.awaited.now) (prefix_of a.next.now) in
    let s = state_in a.state.now in
    let r = type_of a.output.now in
    let none : holds a.x.0 (free_in_state s) ≡ false = not-true _ (sym c.is_apart.ensures ∙ c.if-is_apart.true) in
    let empty = untouched_on a.x.0 entries (free_in_state s) c.requires.touched none in
    c.rested.ensures r _ _ _ a.budget 1001 c.empty_boxed.ensures (gives_nothing funs entries s r c.requires.ready empty) (stays_as_it_is funs entries s r c.requires.ready empty)

pub step_beside-step_sides-requires : goal.step_beside-step_sides-requires
step_beside-step_sides-requires t c =
    let a = c.args in
    let entries = entries_on (awaited_in a.awaited.now) (prefix_of a.next.now) in
    let is_state : state_in a.state.now ≡ par_state (state_in c.deref_mut.result.now) (state_in c.deref_mut-in-Par-output-2.result.now) =
    ap state_in c.in-Par.is ∙ ap₂ (λ (m l : Live). par_state (state_in m) (state_in l)) (sym c.deref_mut.ensures.value) (sym c.deref_mut-in-Par-output-2.ensures.value) in
    let is_type : type_of a.output.now ≡ par (type_of c.deref_mut-in-Par-output.result.now) (type_of c.deref_mut-in-Par-output-3.result.now) =
    ap type_of c.in-Par-output.is ∙ ap₂ (λ (m l : Ty). par (type_of m) (type_of l)) (sym c.deref_mut-in-Par-output.ensures.value) (sym c.deref_mut-in-Par-output-3.ensures.value) in
    let heavier = ap heft is_state in
    (omega (arith, heavier), subst (λ (s : StateTree). IsBeside a.x.0 entries (bodies_in a.code.now) s (par (type_of c.deref_mut-in-Par-output.result.now) (type_of c.deref_mut-in-Par-output-3.result.now))) is_state (subst (λ (r : StreamType). IsBeside a.x.0 entries (bodies_in a.code.now) (state_in a.state.now) r) is_type c.requires))

pub step_beside-returns-in-Par-output : goal.step_beside-returns-in-Par-output
step_beside-returns-in-Par-output t c =
    let is_state : state_in c.args.state.now ≡ par_state (state_in c.deref_mut.result.now) (state_in c.deref_mut-in-Par-output-2.result.now) =
    ap state_in c.in-Par.is ∙ ap₂ (λ (m l : Live). par_state (state_in m) (state_in l)) (sym c.deref_mut.ensures.value) (sym c.deref_mut-in-Par-output-2.ensures.value) in
    let is_type : type_of c.args.output.now ≡ par (type_of c.deref_mut-in-Par-output.result.now) (type_of c.deref_mut-in-Par-output-3.result.now) =
    ap type_of c.in-Par-output.is ∙ ap₂ (λ (m l : Ty). par (type_of m) (type_of l)) (sym c.deref_mut-in-Par-output.ensures.value) (sym c.deref_mut-in-Par-output-3.ensures.value) in
    rw (is_state, is_type) c.step_sides.ensures

pub step_sides-step_beside-requires : goal.step_sides-step_beside-requires
step_sides-step_beside-requires t c = (omega arith, beside_left c.requires)

pub step_sides-step_beside-two-requires : goal.step_sides-step_beside-two-requires
step_sides-step_beside-two-requires t c = (omega arith, beside_right c.requires)

pub step_sides-returns-in-Ok : goal.step_sides-returns-in-Ok
step_sides-returns-in-Ok t c =
    let few : c.in-Ok.one.calls ≤ c.args.budget = c.in-Ok.ensures.counted in
    c.sides_done.ensures _ _ _ _ _ _ _ _ _ _ c.args.budget _ 1001 c.in-Ok.ensures (omega (arith, few)) c.step_beside-two.ensures

pub step_sides-returns-in-Err : goal.step_sides-returns-in-Err
step_sides-returns-in-Err t c = side_ends _ c.in-Err.ensures
