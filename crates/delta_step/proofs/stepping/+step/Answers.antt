-- What each form gives, by what its parts give.
use Rattle.std.proofs.Common.{◌≡◌, ◌-◌, ◌≤◌, ◌||◌, true, false, List, map, sym, ap, ap₂, ◌∙◌, subst, arith, rules}
use Rattle.stream_type.specs.StreamType.{type_of}
use Rattle.stream_prefix.specs.declared.prefix.Prefix.{Prefix}
use Rattle.stream_prefix.specs.StreamPrefix.{StreamPrefix, is_maximal}
use Rattle.stream_prefix.specs.Tree.{prefix_of}
use Rattle.bunch.specs.Names.{put}
use Rattle.core_term.specs.Run.{Run}
use Rattle.core_term.specs.Parts.{cat_first, cat_second}
use Rattle.delta_state.specs.StateTree.{is_var_state, par_state, cat_state, let_state, let_par_state, let_cat_state, frame_state}
use Rattle.delta_state.specs.StateMeaning.{run_state, run_later}
use Rattle.delta_state.specs.Rest.{rest_of}
use Rattle.delta_step.specs.declared.marked.Marked.{Marked}
use Rattle.machine_parts.specs.declared.entry.Entry.{Entry}
use Rattle.delta_step.specs.Marked.{state_in, code_in, arguments_from}
use Rattle.machine_parts.specs.Entry.{entry_in}
use Rattle.machine_parts.specs.Scope.{types_in, streams_in}
use Rattle.delta_step.specs.Reached.{runs_of}
use Rattle.delta_step.specs.Gives.{Gives}
use Rattle.delta_step.specs.Steps.{funs_in, state_run}
use Rattle.machine_parts.specs.Parameters.{parameters}
use Rattle.machine_parts.proofs.Runs.{cat_spent_first}
use Rattle.machine_parts.proofs.HeldAndComing.{body_runs, body_rests}
use Rattle.machine_parts.proofs.Deeper.{cat_deep_first, let_deep_head}
use Rattle.machine_parts.specs.Levels.{below}
use Rattle.delta_step.proofs.Rows.{rows}
use Rattle.delta_step.proofs.FirstParts.{gives_of, same_gives, same_gives_all, part_ends, turn_waits, turn_goes}
use Rattle.delta_step.proofs.stepping.+step.Goals as goal

pub step_state-returns-in-Par : goal.step_state-returns-in-Par
step_state-returns-in-Par t c =
    let is : state_in c.args.s.now ≡ par_state (state_in c.deref.result.now) (state_in c.deref-in-Par.result.now) = ap state_in c.in-Par.is ∙ ap₂ (λ (m l : Marked). par_state (state_in m) (state_in l)) (sym c.deref.ensures) (sym c.deref-in-Par.ensures) in
    rw is c.step_both.ensures

pub step_state-returns-in-Cat : goal.step_state-returns-in-Cat
step_state-returns-in-Cat t c =
    let is : state_in c.args.s.now ≡ cat_state (state_in c.deref-in-Cat.result.now) (code_in c.in-Cat.l) = ap state_in c.in-Cat.is ∙ ap (λ (m : Marked). cat_state (state_in m) (code_in c.in-Cat.l)) (sym c.deref-in-Cat.ensures) in
    rw is c.step_in_turn.ensures

pub step_state-returns-in-Let : goal.step_state-returns-in-Let
step_state-returns-in-Let t c =
    let is : state_in c.args.s.now ≡ let_state c.in-Let.x.0 (type_of c.in-Let.t) (state_in c.deref-in-Let.result.now) (state_in c.deref-in-Let-2.result.now) = ap state_in c.in-Let.is ∙ ap₂ (λ (m l : Marked). let_state c.in-Let.x.0 (type_of c.in-Let.t) (state_in m) (state_in l)) (sym c.deref-in-Let.ensures) (sym c.deref-in-Let-2.ensures) in
    rw is c.step_let.ensures

pub step_state-returns-in-LetPar : goal.step_state-returns-in-LetPar
step_state-returns-in-LetPar t c =
    let is : state_in c.args.s.now ≡ let_par_state c.in-LetPar.x.0 c.in-LetPar.y.0 c.in-LetPar.z.0 (state_in c.deref-in-LetPar.result.now) = ap state_in c.in-LetPar.is ∙ ap (λ (m : Marked). let_par_state c.in-LetPar.x.0 c.in-LetPar.y.0 c.in-LetPar.z.0 (state_in m)) (sym c.deref-in-LetPar.ensures) in
    rw is c.step_pair.ensures

pub step_state-returns-in-LetCat : goal.step_state-returns-in-LetCat
step_state-returns-in-LetCat t c =
    let is : state_in c.args.s.now ≡ let_cat_state c.in-LetCat.x.0 c.in-LetCat.y.0 c.in-LetCat.z.0 (state_in c.deref-in-LetCat.result.now) = ap state_in c.in-LetCat.is ∙ ap (λ (m : Marked). let_cat_state c.in-LetCat.x.0 c.in-LetCat.y.0 c.in-LetCat.z.0 (state_in m)) (sym c.deref-in-LetCat.ensures) in
    rw is c.step_row.ensures

pub step_state-returns-in-Frame : goal.step_state-returns-in-Frame
step_state-returns-in-Frame t c =
    let is : state_in c.args.s.now ≡ frame_state (arguments_from c.deref-in-Frame.result.now) (state_in c.deref-in-Frame-2.result.now) = search (rules, rows) in
    rw is c.step_frame.ensures

pub step_state-returns-in-Sink : goal.step_state-returns-in-Sink
step_state-returns-in-Sink t c =
    let e = c.step_alone.ensures in
    gives_of _ _ _ _ _ e.run e.rest e.counted e.shallow e.spent e.deep

pub step_both-returns-in-Ok : goal.step_both-returns-in-Ok
step_both-returns-in-Ok t c =
    let few : c.in-Ok.one.calls ≤ c.args.left = c.in-Ok.ensures.counted in
    c.both_done.ensures _ _ _ _ _ _ _ (rw c.par_types.ensures.left at c.in-Ok.ensures) (omega (arith, few)) (rw c.par_types.ensures.right at c.step_state-two.ensures)

pub step_both-returns-in-Err : goal.step_both-returns-in-Err
step_both-returns-in-Err t c =
    part_ends (λ f. omega (arith, f)) (λ f. omega (arith, f)) (rw c.par_types.ensures.left at c.in-Err.ensures)

pub step_in_turn-returns-then-not-goes_on : goal.step_in_turn-returns-then-not-goes_on
step_in_turn-returns-then-not-goes_on t c =
    let a = c.args in
    let x = run_state (funs_in a.core.now) (state_in a.a.now) (types_in a.scope.now) (cat_first (type_of a.r.now)) (streams_in a.scope.now) in
    let y = run_later (funs_in a.core.now) (code_in a.l.now) (types_in a.scope.now) (cat_second (type_of a.r.now)) (streams_in a.scope.now) in
    let one = rw c.cat_types.ensures.first at c.in-Ok.ensures in
    let waits : is_maximal (prefix_of c.in-Ok.one.output.value) ≡ false = search rules in
    turn_waits c.in-Ok.one c.before_code.result c.made.result x y _ _ _ a.left a.levels (subst (λ (z : Run). is_maximal z.out ≡ false) one.run waits) c.before_code.ensures.run c.before_code.ensures.rest c.made.ensures one

pub step_in_turn-returns-else-not-goes_on : goal.step_in_turn-returns-else-not-goes_on
step_in_turn-returns-else-not-goes_on t c =
    let a = c.args in
    let x = run_state (funs_in a.core.now) (state_in a.a.now) (types_in a.scope.now) (cat_first (type_of a.r.now)) (streams_in a.scope.now) in
    let y = run_later (funs_in a.core.now) (code_in a.l.now) (types_in a.scope.now) (cat_second (type_of a.r.now)) (streams_in a.scope.now) in
    let one = rw c.cat_types.ensures.first at c.in-Ok.ensures in
    let few : c.in-Ok.one.calls ≤ a.left = one.counted in
    let goes : is_maximal (prefix_of c.in-Ok.one.output.value) ≡ true = search rules in
    let whole : is_maximal x.out ≡ true = subst (λ (z : Run). is_maximal z.out ≡ true) one.run goes in
    let e = c.open-two.ensures in
    let two = rw c.cat_types.ensures.second at (gives_of c.open-two.result _ _ _ _ e.run e.rest e.counted e.shallow e.spent e.deep) in
    turn_goes c.turn_done.result x y _ _ a.left a.levels whole (c.turn_done.ensures _ _ _ _ _ _ _ one whole (omega (arith, few)) two)

pub step_in_turn-returns-in-Err : goal.step_in_turn-returns-in-Err
step_in_turn-returns-in-Err t c =
    let a = c.args in
    let x = run_state (funs_in a.core.now) (state_in a.a.now) (types_in a.scope.now) (cat_first (type_of a.r.now)) (streams_in a.scope.now) in
    let y = run_later (funs_in a.core.now) (code_in a.l.now) (types_in a.scope.now) (cat_second (type_of a.r.now)) (streams_in a.scope.now) in
    part_ends (λ f. cat_spent_first x y a.left f) (λ f. cat_deep_first x y a.levels f) (rw c.cat_types.ensures.first at c.in-Err.ensures)

pub step_let-returns-in-Ok : goal.step_let-returns-in-Ok
step_let-returns-in-Ok t c =
    let a = c.args in
    let few : c.in-Ok.head.calls ≤ a.left = c.in-Ok.ensures.counted in
    let x = state_run a.core.now a.scope.now (state_in a.a.now) (type_of a.t.now) in
    let out : prefix_of c.deref.result.now ≡ x.out = ap (λ (p : Prefix). prefix_of p) c.deref.ensures ∙ ap (λ (r : Run). r.out) c.in-Ok.ensures.run in
    let after : c.after_head-after.result ≡ below (c.is_name-named.result || is_maximal (prefix_of c.in-Ok.head.output.value)) a.levels =
    c.after_head-after.ensures ∙ ap (λ (p : Prefix). below (c.is_name-named.result || is_maximal (prefix_of p)) a.levels) c.deref-in-Ok.ensures in
    let body = subst (λ (p : StreamPrefix). Gives c.step_state-body.result
    (run_state (funs_in a.core.now) (state_in a.b.now) (put a.x.0 (type_of a.t.now) (types_in a.scope.now)) (type_of a.r.now) (put a.x.0 p (streams_in a.scope.now)))
    (rest_of (funs_in a.core.now) (state_in a.b.now) (put a.x.0 (type_of a.t.now) (types_in a.scope.now)) (type_of a.r.now) (put a.x.0 p (streams_in a.scope.now)))
    (a.left - c.in-Ok.head.calls) c.after_head-after.result) out c.step_state-body.ensures in
    rw c.is_name-named.ensures at (c.let_done.ensures _ _ _ _ _ _ a.levels _ (rw c.inside.ensures at c.in-Ok.ensures) (omega (arith, few)) after body)

pub step_let-returns-in-Err : goal.step_let-returns-in-Err
step_let-returns-in-Err t c =
    let a = c.args in
    let x = state_run a.core.now a.scope.now (state_in a.a.now) (type_of a.t.now) in
    let y = run_state (funs_in a.core.now) (state_in a.b.now) (put a.x.0 (type_of a.t.now) (types_in a.scope.now)) (type_of a.r.now) (put a.x.0 x.out (streams_in a.scope.now)) in
    part_ends (λ f. omega (arith, f)) (λ f. let_deep_head (is_var_state (state_in a.a.now)) x y a.levels c.inside.result c.inside.ensures f) c.in-Err.ensures

pub step_pair-returns : goal.step_pair-returns
step_pair-returns t c =
    c.pair_done.ensures _ _ _ _ (rw (c.par_types.ensures.left, c.par_types.ensures.right, c.type_at.ensures, c.par_parts.ensures.left, c.par_parts.ensures.right, c.stream_at.ensures) at c.step_state-inside.ensures)

pub step_row-returns : goal.step_row-returns
step_row-returns t c =
    rw (c.type_at-ty.ensures, c.stream_at-p.ensures) at (c.row_done.ensures _ _ _ _
    (rw (c.deref.ensures, c.in-Ok.ensures, c.cat_types.ensures.first, c.cat_types.ensures.second, c.first_part.ensures, c.type_at-ty.ensures, c.stream_at-p.ensures) at c.step_state-inside.ensures))

pub step_frame-returns-in-Ok-entries_of : goal.step_frame-returns-in-Ok-entries_of
step_frame-returns-in-Ok-entries_of t c =
    let a = c.args in
    let args = arguments_from a.args.now in
    let reached = c.in-Ok.arguments in
    let few : reached.calls ≤ a.left = c.in-Ok.ensures.counted in
    let es = map entry_in c.deref-in-Ok.result.now in
    let names : es ≡ parameters args (runs_of reached).outs =
    ap (λ (l : List Entry). map entry_in l) c.deref-in-Ok.ensures.value ∙ (c.in-Ok-entries_of.ensures ∙ ap (λ (l : List Prefix). parameters args (map prefix_of l)) c.deref.ensures.value) in
    let runs = c.in-Ok.ensures.runs in
    let same_run = body_runs (funs_in a.core.now) args (types_in a.scope.now) (streams_in a.scope.now) (runs_of reached) es runs names (state_in a.a.now) (type_of a.r.now) in
    let same_rest = body_rests (funs_in a.core.now) args (types_in a.scope.now) (streams_in a.scope.now) (runs_of reached) es runs names (state_in a.a.now) (type_of a.r.now) in
    c.frame_done.ensures _ _ _ _ _ _ a.levels _ (rw c.inside.ensures at c.in-Ok.ensures) (omega (arith, few)) c.on_arguments-on_those.ensures (same_gives same_run same_rest c.step_state-body.ensures)

pub step_arguments-returns-in-Ok : goal.step_arguments-returns-in-Ok
step_arguments-returns-in-Ok t c =
    let few : c.in-Ok.a.calls ≤ c.args.left = c.in-Ok.ensures.counted in
    same_gives_all (search rules) (search rules) (c.argument_done.ensures _ _ _ _ _ _ _ c.in-Ok.ensures (omega (arith, few)) c.step_arguments-after.ensures)
