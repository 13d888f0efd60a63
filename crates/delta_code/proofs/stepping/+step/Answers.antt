-- What each form gives, by what its parts give.
use Rattle.std.proofs.Common.{◌≡◌, ◌-◌, ◌≤◌, ◌||◌, ◌++◌, ◌∷◌, [], Bool, true, false, List, map, refl, sym, ap, ap₂, ◌∙◌, subst, arith, rules}
use Rattle.stream_type.specs.StreamType.{type_of}
use Rattle.stream_prefix.specs.declared.prefix.Prefix.{Prefix}
use Rattle.stream_prefix.specs.StreamPrefix.{StreamPrefix, eps_emp, is_maximal}
use Rattle.stream_prefix.specs.Tree.{prefix_of}
use Rattle.bunch.specs.Names.{put, value_at}
use Rattle.core_term.specs.Run.{Run}
use Rattle.core_term.specs.Parts.{cat_first, cat_second}
use Rattle.delta_state.specs.StateTree.{is_var_state, var_state, par_state, cat_state, let_state, let_par_state, let_cat_state, frame_state, no_arguments, argument_before, argument_names}
use Rattle.delta_state.specs.StateMeaning.{run_state, run_later, types_of_arguments}
use Rattle.delta_state.specs.Rest.{rest_of}
use Rattle.machine_parts.specs.declared.entry.Entry.{Entry}
use Rattle.machine_parts.specs.Entry.{entry_in}
use Rattle.machine_parts.specs.Levels.{below}
use Rattle.machine_parts.specs.Parameters.{parameters}
use Rattle.machine_parts.specs.Scope.{types_in, streams_in}
use Rattle.machine_parts.proofs.Runs.{cat_spent_first}
use Rattle.machine_parts.proofs.HeldAndComing.{body_runs, body_rests}
use Rattle.machine_parts.proofs.Deeper.{cat_deep_first, let_deep_head, frame_deep_arguments}
use Rattle.template_state.specs.declared.live.Live.{Live}
use Rattle.template_state.specs.declared.live.Arguments.{Arguments}
use Rattle.template_state.specs.Readers.{state_in, later_in, arguments_in}
use Rattle.delta_code.specs.GoesOn.{GoesOn}
use Rattle.delta_code.specs.Steps.{funs_of, live_run, lives_run}
use Rattle.delta_code.proofs.GoingOn.{part_ends, part_ends_as, arguments_end, pair_goes, as_many, few, low, same_goes, none_go, found_go}
use Rattle.delta_code.proofs.stepping.+step.Goals as goal

pub step_both-returns-in-Ok : goal.step_both-returns-in-Ok
step_both-returns-in-Ok t c =
    let few : c.in-Ok.one.calls ≤ c.args.left = c.in-Ok.ensures.counted in
    c.both_done.ensures _ _ _ _ _ _ _ _ _ (rw c.par_types.ensures.left at c.in-Ok.ensures) (omega (arith, few)) (rw c.par_types.ensures.right at c.step_state-two.ensures)

pub step_both-returns-in-Err : goal.step_both-returns-in-Err
step_both-returns-in-Err t c =
    part_ends (λ f. omega (arith, f)) (λ f. omega (arith, f)) (rw c.par_types.ensures.left at c.in-Err.ensures)

pub step_in_turn-returns-then-not-maximal : goal.step_in_turn-returns-then-not-maximal
step_in_turn-returns-then-not-maximal t c =
    let a = c.args in
    let x = live_run a.code.now a.scope.now (state_in a.a.now) (cat_first (type_of a.r.now)) in
    let y = run_later (funs_of a.code.now) (later_in a.l.now) (types_in a.scope.now) (cat_second (type_of a.r.now)) (streams_in a.scope.now) in
    let one = rw c.cat_types.ensures.first at c.in-Ok.ensures in
    let waits : is_maximal (prefix_of c.in-Ok.one.output.value) ≡ false = search rules in
    c.waits_done.ensures x y _ _ _ _ _ _ one (subst (λ (z : Run). is_maximal z.out ≡ false) one.run waits)

pub step_in_turn-returns-else-not-maximal : goal.step_in_turn-returns-else-not-maximal
step_in_turn-returns-else-not-maximal t c =
    let a = c.args in
    let x = live_run a.code.now a.scope.now (state_in a.a.now) (cat_first (type_of a.r.now)) in
    let y = run_later (funs_of a.code.now) (later_in a.l.now) (types_in a.scope.now) (cat_second (type_of a.r.now)) (streams_in a.scope.now) in
    let one = rw c.cat_types.ensures.first at c.in-Ok.ensures in
    let few : c.in-Ok.one.calls ≤ a.left = one.counted in
    let goes : is_maximal (prefix_of c.in-Ok.one.output.value) ≡ true = search rules in
    let whole : is_maximal x.out ≡ true = subst (λ (z : Run). is_maximal z.out ≡ true) one.run goes in
    let two = rw c.cat_types.ensures.second at c.open-two.ensures in
    c.turn_done.ensures x y _ _ _ _ _ _ _ _ one whole (omega (arith, few)) two

pub step_in_turn-returns-in-Err : goal.step_in_turn-returns-in-Err
step_in_turn-returns-in-Err t c =
    let a = c.args in
    let x = live_run a.code.now a.scope.now (state_in a.a.now) (cat_first (type_of a.r.now)) in
    let y = run_later (funs_of a.code.now) (later_in a.l.now) (types_in a.scope.now) (cat_second (type_of a.r.now)) (streams_in a.scope.now) in
    part_ends_as (λ f. cat_spent_first x y a.left f) (λ f. cat_deep_first x y a.levels f) (rw c.cat_types.ensures.first at c.in-Err.ensures)

pub step_let-returns-in-Ok : goal.step_let-returns-in-Ok
step_let-returns-in-Ok t c =
    let a = c.args in
    let few : c.in-Ok.head.calls ≤ a.left = c.in-Ok.ensures.counted in
    let x = live_run a.code.now a.scope.now (state_in a.a.now) (type_of a.t.now) in
    let out : prefix_of c.deref-in-Ok.result.now ≡ x.out = ap (λ (p : Prefix). prefix_of p) c.deref-in-Ok.ensures ∙ ap (λ (r : Run). r.out) c.in-Ok.ensures.run in
    let after : c.after_head-after.result ≡ below (c.is_name-named.result || is_maximal (prefix_of c.in-Ok.head.output.value)) a.levels =
    c.after_head-after.ensures ∙ ap (λ (p : Prefix). below (c.is_name-named.result || is_maximal (prefix_of p)) a.levels) c.deref.ensures in
    let body = subst (λ (p : StreamPrefix). GoesOn c.step_state-body.result
    (run_state (funs_of a.code.now) (state_in a.b.now) (put a.x.0 (type_of a.t.now) (types_in a.scope.now)) (type_of a.r.now) (put a.x.0 p (streams_in a.scope.now)))
    (rest_of (funs_of a.code.now) (state_in a.b.now) (put a.x.0 (type_of a.t.now) (types_in a.scope.now)) (type_of a.r.now) (put a.x.0 p (streams_in a.scope.now)))
    (state_in c.step_state-body.new.s) (a.left - c.in-Ok.head.calls) c.after_head-after.result) out c.step_state-body.ensures in
    rw c.is_name-named.ensures at (c.let_done.ensures a.x.0 _ _ _ _ _ _ _ _ a.levels _ (rw c.inside.ensures at c.in-Ok.ensures) (omega (arith, few)) after body)

pub step_let-returns-in-Err : goal.step_let-returns-in-Err
step_let-returns-in-Err t c =
    let a = c.args in
    let x = live_run a.code.now a.scope.now (state_in a.a.now) (type_of a.t.now) in
    let y = run_state (funs_of a.code.now) (state_in a.b.now) (put a.x.0 (type_of a.t.now) (types_in a.scope.now)) (type_of a.r.now) (put a.x.0 x.out (streams_in a.scope.now)) in
    part_ends (λ f. omega (arith, f)) (λ f. let_deep_head (is_var_state (state_in a.a.now)) x y a.levels c.inside.result c.inside.ensures f) c.in-Err.ensures

pub step_pair-returns : goal.step_pair-returns
step_pair-returns t c =
    pair_goes (rw (c.par_types.ensures.left, c.par_types.ensures.right, c.type_at.ensures, c.par_parts.ensures.left, c.par_parts.ensures.right, c.stream_at.ensures) at c.step_state.ensures)

pub step_row-returns : goal.step_row-returns
step_row-returns t c =
    rw (c.type_at-ty.ensures, c.stream_at-p.ensures) at (c.row_done.ensures _ _ _ _
    (rw (c.deref.ensures, c.in-Ok.ensures, c.cat_types.ensures.first, c.cat_types.ensures.second, c.first_part.ensures, c.type_at-ty.ensures, c.stream_at-p.ensures) at c.step_state-given.ensures))

pub step_on_all-returns-in-Ok : goal.step_on_all-returns-in-Ok
step_on_all-returns-in-Ok t c =
    let a = c.args in
    let args = arguments_in a.args.now in
    let none : c.new-entries.result.items ≡ [] = search rules in
    let reached = rw none at c.in-Ok.ensures in
    let few : c.in-Ok.arguments.calls ≤ a.left = reached.counted in
    let runs = lives_run a.code.now a.scope.now args in
    let es = map entry_in c.deref.result.now in
    let names : es ≡ parameters args runs.outs = ap (λ (l : List Entry). map entry_in l) c.deref.ensures.value ∙ reached.entries in
    let after : c.on_arguments-on_those.result ≡ below c.in-Ok.arguments.are_shut a.levels = c.on_arguments-on_those.ensures in
    let same_run = body_runs (funs_of a.code.now) args (types_in a.scope.now) (streams_in a.scope.now) runs es refl names (state_in a.a.now) (type_of a.r.now) in
    let same_rest = body_rests (funs_of a.code.now) args (types_in a.scope.now) (streams_in a.scope.now) runs es refl names (state_in a.a.now) (type_of a.r.now) in
    c.frame_done.ensures _ _ _ _ _ _ _ _ a.levels _ (rw c.inside.ensures at reached) (omega (arith, few)) after (same_goes same_run same_rest c.step_state-body.ensures)

pub step_on_all-returns-in-Err : goal.step_on_all-returns-in-Err
step_on_all-returns-in-Err t c =
    let a = c.args in
    let args = arguments_in a.args.now in
    let runs = lives_run a.code.now a.scope.now args in
    let body = run_state (funs_of a.code.now) (state_in a.a.now) (types_of_arguments args) (type_of a.r.now) (value_at eps_emp (argument_names args) runs.outs) in
    arguments_end (λ f. omega (arith, f)) (λ f. frame_deep_arguments runs body a.levels c.inside.result c.inside.ensures f) c.in-Err.ensures

pub step_on_name-returns : goal.step_on_name-returns
step_on_name-returns t c =
    let a = c.args in
    let args = argument_before a.x.0 (type_of a.t.now) (var_state a.z.0) no_arguments in
    let runs = lives_run a.code.now a.scope.now args in
    let es = record { name = a.x.0; type = type_of a.t.now; prefix = prefix_of c.stream_at-p.result.now } ∷ [] in
    let names : es ≡ parameters args runs.outs = λ i. record { name = a.x.0; type = type_of a.t.now; prefix = c.stream_at-p.ensures i } ∷ [] in
    let same_run = body_runs (funs_of a.code.now) args (types_in a.scope.now) (streams_in a.scope.now) runs es refl names (state_in a.a.now) (type_of a.r.now) in
    let same_rest = body_rests (funs_of a.code.now) args (types_in a.scope.now) (streams_in a.scope.now) runs es refl names (state_in a.a.now) (type_of a.r.now) in
    rw c.stream_at-p.ensures at (c.named_done.ensures a.x.0 a.z.0 runs _ _ _ a.left a.levels refl refl refl (same_goes same_run same_rest c.step_state-body.ensures))

pub step_arguments-returns-in_default : goal.step_arguments-returns-in_default
step_arguments-returns-in_default t c =
    let is : arguments_in c.args.args.now ≡ no_arguments = ap (λ (l : Arguments). arguments_in l) c.in_default.is in
    rw is (none_go c.none_told.result (map entry_in c.args.found.now.items) c.args.left c.args.levels c.none_told.ensures.0 c.none_told.ensures.1.0 c.none_told.ensures.1.1)

pub step_arguments-returns-in-Ok-keep : goal.step_arguments-returns-in-Ok-keep
step_arguments-returns-in-Ok-keep t c =
    let a = c.args in
    let x = c.in-Before.x.0 in
    let ty = type_of c.in-Before.t in
    let s = c.deref_mut.result.now in
    let args = arguments_in c.deref_mut-in-Ok.result.now in
    let is : arguments_in a.args.now ≡ argument_before x ty (state_in s) args =
    ap (λ (l : Arguments). arguments_in l) c.in-Before.is ∙ ap₂ (λ (m : Live) (l : Arguments). argument_before x ty (state_in m) (arguments_in l)) (sym c.deref_mut.ensures.value) (sym c.deref_mut-in-Ok.ensures.value) in
    let run = live_run a.code.now a.scope.now (state_in s) ty in
    let told = c.in-Ok.ensures in
    let kept = c.in-Ok-keep.ensures in
    let out : prefix_of c.in-Ok.told.output.value ≡ run.out = ap (λ (r : Run). r.out) told.run in
    let level : c.in-Ok.told.level ≡ run.level = ap (λ (r : Run). r.level) told.run in
    let named : c.is_name-named.result ≡ is_var_state (state_in s) = c.is_name-named.ensures ∙ ap (λ (m : Live). is_var_state (state_in m)) (c.deref.ensures ∙ sym c.deref_mut.ensures.value) in
    let shut : c.in-Ok-keep.one.are_shut ≡ (is_var_state (state_in s) || is_maximal run.out) = kept.are_shut ∙ ap₂ (λ (b : Bool) (p : StreamPrefix). b || is_maximal p) named out in
    let before = map entry_in a.found.now.items in
    let found : map entry_in c.keep.new.found.items ≡ before ++ record { name = x; type = ty; prefix = run.out } ∷ [] = kept.found ∙ ap (λ (p : StreamPrefix). before ++ record { name = x; type = ty; prefix = p } ∷ []) out in
    let calls = kept.calls in
    let within : c.in-Ok.told.calls ≤ a.left = told.counted in
    rw (is, kept.ty) (c.all_done.ensures (is_var_state (state_in s)) x ty run (lives_run a.code.now a.scope.now args) _ _ _ _ _ before _ a.left _ a.levels (calls ∙ as_many told) (kept.level ∙ level) shut (few told) (low told) told.rest (omega (arith, calls, within)) (found_go found c.step_arguments-after.ensures))

pub step_state-returns-in-Par : goal.step_state-returns-in-Par
step_state-returns-in-Par t c =
    let is : state_in c.args.s.now ≡ par_state (state_in c.deref_mut.result.now) (state_in c.deref_mut-in-Par.result.now) =
    ap state_in c.in-Par.is ∙ ap₂ (λ (m l : Live). par_state (state_in m) (state_in l)) (sym c.deref_mut.ensures.value) (sym c.deref_mut-in-Par.ensures.value) in
    rw is c.step_both.ensures

pub step_state-returns-in-Cat : goal.step_state-returns-in-Cat
step_state-returns-in-Cat t c =
    let is : state_in c.args.s.now ≡ cat_state (state_in c.deref_mut-in-Cat.result.now) (later_in c.in-Cat.l) =
    ap state_in c.in-Cat.is ∙ ap (λ (m : Live). cat_state (state_in m) (later_in c.in-Cat.l)) (sym c.deref_mut-in-Cat.ensures.value) in
    rw is (c.put_done.ensures _ _ _ _ c.step_in_turn-gone.ensures)

pub step_state-returns-in-Let : goal.step_state-returns-in-Let
step_state-returns-in-Let t c =
    let i = c.in-Let in
    let is : state_in c.args.s.now ≡ let_state i.x.0 (type_of i.t) (state_in c.deref_mut-in-Let.result.now) (state_in c.deref_mut-in-Let-2.result.now) =
    ap state_in i.is ∙ ap₂ (λ (m l : Live). let_state i.x.0 (type_of i.t) (state_in m) (state_in l)) (sym c.deref_mut-in-Let.ensures.value) (sym c.deref_mut-in-Let-2.ensures.value) in
    rw is c.step_let.ensures

pub step_state-returns-in-LetPar : goal.step_state-returns-in-LetPar
step_state-returns-in-LetPar t c =
    let i = c.in-LetPar in
    let is : state_in c.args.s.now ≡ let_par_state i.x.0 i.y.0 i.z.0 (state_in c.deref_mut-in-LetPar.result.now) =
    ap state_in i.is ∙ ap (λ (m : Live). let_par_state i.x.0 i.y.0 i.z.0 (state_in m)) (sym c.deref_mut-in-LetPar.ensures.value) in
    rw is c.step_pair.ensures

pub step_state-returns-in-LetCat : goal.step_state-returns-in-LetCat
step_state-returns-in-LetCat t c =
    let i = c.in-LetCat in
    let is : state_in c.args.s.now ≡ let_cat_state i.x.0 i.y.0 i.z.0 (state_in c.deref_mut-in-LetCat.result.now) =
    ap state_in i.is ∙ ap (λ (m : Live). let_cat_state i.x.0 i.y.0 i.z.0 (state_in m)) (sym c.deref_mut-in-LetCat.ensures.value) in
    rw is (c.put_done-in-LetCat.ensures _ _ _ _ c.step_row-gone.ensures)

pub step_state-returns-in-Frame : goal.step_state-returns-in-Frame
step_state-returns-in-Frame t c =
    let is : state_in c.args.s.now ≡ frame_state (arguments_in c.deref_mut-in-Frame.result.now) (state_in c.deref_mut-in-Frame-2.result.now) =
    ap state_in c.in-Frame.is ∙ ap₂ (λ (l : Arguments) (m : Live). frame_state (arguments_in l) (state_in m)) (sym c.deref_mut-in-Frame.ensures.value) (sym c.deref_mut-in-Frame-2.ensures.value) in
    rw is c.step_frame.ensures

pub step_state-returns-in-Sink : goal.step_state-returns-in-Sink
step_state-returns-in-Sink t c = c.step_alone.ensures
