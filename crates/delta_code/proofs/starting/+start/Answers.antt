-- What each form gives or leads to, by what its parts give.
use Rattle.std.proofs.Common.{◌≡◌, suc, ◌+◌, ◌-◌, ◌*◌, ◌<◌, ◌≤◌, ◌||◌, true, false, List, map, subst, sym, refl, ap, ap₂, ◌∙◌, arith, rules}
use Rattle.std.proofs.lemmas.List.{nil_from_length}
use Rattle.std.proofs.lemmas.Result.{IfOk-weaker, err_from_is_err_and}
use Rattle.stream_type.specs.StreamType.{type_of}
use Rattle.stream_prefix.specs.declared.prefix.Prefix.{Prefix}
use Rattle.stream_prefix.specs.StreamPrefix.{StreamPrefix, is_maximal}
use Rattle.stream_prefix.specs.Tree.{prefix_of}
use Rattle.bunch.specs.Names.{put}
use Rattle.std.specs.declared.alloc.Global.{Global}
use Rattle.std.specs.declared.vec.Vec.{Vec}
use Rattle.hist_value.specs.declared.history.Value.{Value}
use Rattle.hist_value.specs.declared.expr.Expr.{Expr}
use Rattle.hist_value.specs.HistExpr.{expr_of}
use Rattle.hist_value.specs.HistValue.{hist_value_of}
use Rattle.core_term.specs.CoreTerm.{CoreTerm, CoreBody, fun_at, is_var, par_term, cat_term, cons_term, inl_term, inr_term, let_term, let_par_term, let_cat_term, call_term, term_before}
use Rattle.core_term.specs.Environment.{Environment}
use Rattle.core_term.specs.Parts.{cat_first, cat_second, star_item, star_items}
use Rattle.core_term.specs.Run.{Run, Runs, one_call, call_run, no_runs}
use Rattle.core_term.specs.Meaning.{run_at, call_at}
use Rattle.delta_state.specs.StateTree.{no_arguments}
use Rattle.state_rewriting.specs.Rewriting.{as_they_are}
use Rattle.delta_state.specs.StateMeaning.{past_in, types_held, prefixes_held}
use Rattle.delta_state.specs.Rest.{rest_at, call_rest_at}
use Rattle.machine_parts.specs.declared.entry.Entry.{Entry}
use Rattle.machine_parts.specs.Entry.{entry_in}
use Rattle.machine_parts.specs.Levels.{below}
use Rattle.machine_parts.specs.Scope.{types_in, streams_in, types_over, streams_over}
use Rattle.machine_parts.specs.Weights.{weight, heaviest}
use Rattle.machine_parts.proofs.Deeper.{cat_deep_first, let_deep_head}
use Rattle.machine_parts.proofs.Entering.{one_at_least}
use Rattle.machine_parts.proofs.Runs.{body_weighs_less, heaviest_is, cat_spent_first}
use Rattle.template_state.specs.declared.code.Op.{Op}
use Rattle.template_state.specs.declared.code.Operands.{Operands}
use Rattle.template_state.specs.Readers.{op_term, operand_terms, known_in}
use Rattle.template_state.specs.Templates.{bodies_in}
use Rattle.delta_code.specs.Begun.{run_of, rest_of}
use Rattle.delta_code.specs.Gives.{Gives}
use Rattle.delta_code.specs.Steps.{funs_of, op_run, op_rest, run_where, rest_where}
use Rattle.delta_code.specs.Way.{after, within, reached_run, reached_rest, reached_calls, reached_level}
use Rattle.delta_code.proofs.Easing.{eased_then, eased_same, within_eased, frame_eased, same_arguments}
use Rattle.delta_code.proofs.Gains.{gained_spent, gained_deep}
use Rattle.delta_code.proofs.Giving.{stopped, part_ends, argument_ends, turn_waits, turn_goes, same_gives_all}
use Rattle.delta_code.proofs.Leading.{lost, lead_stops, way_stops, arrives, onward, further_in, same_leads}
use Rattle.delta_code.proofs.Chain.{chain_leads, chain_behind, chain_again, cons_begins, cons_waits}
use Rattle.delta_code.proofs.Lets.{nest_begins, nest_inward, nest_is, nest_leads}
use Rattle.delta_code.proofs.starting.+start.Goals as goal

pub start_term-returns-in-Ok : goal.start_term-returns-in-Ok
start_term-returns-in-Ok t c = arrives c.no_way-way.ensures.run c.no_way-way.ensures.rest c.in-Ok.ensures c.go_on.ensures

pub start_term-returns-in-Err : goal.start_term-returns-in-Err
start_term-returns-in-Err t c = way_stops c.in-Err.ensures

pub start_body-returns-in-Ok : goal.start_body-returns-in-Ok
start_body-returns-in-Ok t c = arrives c.no_way-way.ensures.run c.no_way-way.ensures.rest c.in-Ok.ensures c.go_on.ensures

pub start_body-returns-in-Err : goal.start_body-returns-in-Err
start_body-returns-in-Err t c = way_stops c.in-Err.ensures

pub reach-returns-in-Var : goal.reach-returns-in-Var
reach-returns-in-Var t c =
    c.given.ensures c.args.code.now c.args.k c.args.way.now _ _ c.args.left c.args.levels c.reach_quiet.ensures.run (IfOk-weaker c.reach_quiet.result _ _ (λ a e. eased_same (sym e)) c.reach_quiet.ensures.rest)
    (IfOk-weaker c.reach_quiet.result _ _ (λ a e. omega (arith, e)) c.reach_quiet.ensures.calls) (IfOk-weaker c.reach_quiet.result _ _ (λ a e. omega (arith, e)) c.reach_quiet.ensures.level)

pub reach-returns-in-Par : goal.reach-returns-in-Par
reach-returns-in-Par t c =
    let is : op_term c.args.n.now.value ≡ par_term (op_term c.in-Par.a.value) (op_term c.in-Par.b.value) = ap op_term (sym c.deref.ensures ∙ c.in-Par.is) in
    rw is (c.at_place.ensures _ _ _ _ _ _ _ c.start_both.ensures)

pub reach-returns-in-Cat : goal.reach-returns-in-Cat
reach-returns-in-Cat t c =
    let is : op_term c.args.n.now.value ≡ cat_term (op_term c.in-Cat.a.value) (op_term c.in-Cat.b.value) = ap op_term (sym c.deref.ensures ∙ c.in-Cat.is) in
    rw is (c.at_place-in-Cat.ensures _ _ _ _ _ _ _ c.start_in_turn.ensures)

pub reach-returns-in-Inl : goal.reach-returns-in-Inl
reach-returns-in-Inl t c =
    let is : op_term c.args.n.now.value ≡ inl_term (op_term c.in-Inl.a.value) = ap op_term (sym c.deref.ensures ∙ c.in-Inl.is) in
    rw is (c.at_place-in-Inl.ensures _ _ _ _ _ _ _ c.start_left.ensures)

pub reach-returns-in-Inr : goal.reach-returns-in-Inr
reach-returns-in-Inr t c =
    let is : op_term c.args.n.now.value ≡ inr_term (op_term c.in-Inr.a.value) = ap op_term (sym c.deref.ensures ∙ c.in-Inr.is) in
    rw is (c.at_place-in-Inr.ensures _ _ _ _ _ _ _ c.start_right.ensures)

pub reach-returns-in-Cons : goal.reach-returns-in-Cons
reach-returns-in-Cons t c =
    let is : op_term c.args.n.now.value ≡ cons_term (op_term c.in-Cons.a.value) (op_term c.in-Cons.b.value) = ap op_term (sym c.deref.ensures ∙ c.in-Cons.is) in
    rw is c.reach_cons.ensures

pub reach-returns-in-Let : goal.reach-returns-in-Let
reach-returns-in-Let t c =
    let is : op_term c.args.n.now.value ≡ let_term c.in-Let.x.0 (type_of c.in-Let.s) (op_term c.in-Let.a.value) (op_term c.in-Let.b.value) = ap op_term (sym c.deref.ensures ∙ c.in-Let.is) in
    rw is c.reach_let.ensures

pub reach-returns-in-LetPar : goal.reach-returns-in-LetPar
reach-returns-in-LetPar t c =
    let is : op_term c.args.n.now.value ≡ let_par_term c.in-LetPar.x.0 c.in-LetPar.y.0 c.in-LetPar.z.0 (op_term c.in-LetPar.a.value) = ap op_term (sym c.deref.ensures ∙ c.in-LetPar.is) in
    rw is c.reach_pair.ensures

pub reach-returns-in-LetCat : goal.reach-returns-in-LetCat
reach-returns-in-LetCat t c =
    let is : op_term c.args.n.now.value ≡ let_cat_term c.in-LetCat.x.0 c.in-LetCat.y.0 c.in-LetCat.z.0 (op_term c.in-LetCat.a.value) = ap op_term (sym c.deref.ensures ∙ c.in-LetCat.is) in
    rw is c.reach_row.ensures

pub reach-returns-in-CaseSum : goal.reach-returns-in-CaseSum
reach-returns-in-CaseSum t c = c.reach_sum.ensures

pub reach-returns-in-CaseStar : goal.reach-returns-in-CaseStar
reach-returns-in-CaseStar t c = c.reach_star.ensures

pub reach-returns-in-Wait : goal.reach-returns-in-Wait
reach-returns-in-Wait t c = c.reach_wait.ensures

pub reach-returns-in-Call : goal.reach-returns-in-Call
reach-returns-in-Call t c =
    let is : op_term c.args.n.now.value ≡ call_term c.in-Call.f (map expr_of c.deref-in-Call.result.now) (operand_terms c.deref-in-Call-2.result.now) =
    ap op_term (sym c.deref.ensures ∙ c.in-Call.is) ∙ ap₂ (λ (m : List Expr) (l : Operands). call_term c.in-Call.f (map expr_of m) (operand_terms l)) (sym c.deref-in-Call.ensures.value) (sym c.deref-in-Call-2.ensures) in
    rw is (c.reach_call.ensures (type_of c.args.r.now))

pub start_left-returns : goal.start_left-returns
start_left-returns t c = c.left_done.ensures _ _ _ _ (rw c.sum_types.ensures.left at c.start_term-inside.ensures)

pub start_right-returns : goal.start_right-returns
start_right-returns t c = c.right_done.ensures _ _ _ _ (rw c.sum_types.ensures.right at c.start_term-inside.ensures)

pub start_both-returns-in-Ok : goal.start_both-returns-in-Ok
start_both-returns-in-Ok t c =
    let few : c.in-Ok.one.calls ≤ c.args.left = c.in-Ok.ensures.counted in
    c.both_done.ensures _ _ _ _ _ _ _ (rw c.par_types.ensures.left at c.in-Ok.ensures) (omega (arith, few)) (rw c.par_types.ensures.right at c.start_term-two.ensures)

pub start_both-returns-in-Err : goal.start_both-returns-in-Err
start_both-returns-in-Err t c =
    part_ends (λ f. omega (arith, f)) (λ f. omega (arith, f)) (rw c.par_types.ensures.left at c.in-Err.ensures)

pub start_in_turn-returns-then-not-maximal : goal.start_in_turn-returns-then-not-maximal
start_in_turn-returns-then-not-maximal t c =
    let a = c.args in
    let first = rw c.cat_types.ensures.first at c.in-Ok.ensures in
    let x = op_run a.code.now a.k a.scope.now a.past.now.value (op_term a.a.now.value) in
    let y = op_run a.code.now a.k a.scope.now a.past.now.value (op_term a.b.now.value) in
    let waits : is_maximal (prefix_of c.in-Ok.one.output.value) ≡ false = search rules in
    turn_waits c.in-Ok.one c.before_term.result c.made.result _ _ _ _ _ a.left a.levels (subst (λ (z : Run). is_maximal z.out ≡ false) first.run waits) c.before_term.ensures.run c.before_term.ensures.rest c.made.ensures first

pub start_in_turn-returns-else-not-maximal : goal.start_in_turn-returns-else-not-maximal
start_in_turn-returns-else-not-maximal t c =
    let a = c.args in
    let first = rw c.cat_types.ensures.first at c.in-Ok.ensures in
    let x = op_run a.code.now a.k a.scope.now a.past.now.value (op_term a.a.now.value) (cat_first (type_of a.r.now)) in
    let y = op_run a.code.now a.k a.scope.now a.past.now.value (op_term a.b.now.value) (cat_second (type_of a.r.now)) in
    let few : c.in-Ok.one.calls ≤ a.left = first.counted in
    let goes : is_maximal (prefix_of c.in-Ok.one.output.value) ≡ true = search rules in
    let whole : is_maximal x.out ≡ true = subst (λ (z : Run). is_maximal z.out ≡ true) first.run goes in
    turn_goes c.turn_done.result x y _ _ a.left a.levels whole (c.turn_done.ensures _ _ _ _ _ _ _ first whole (omega (arith, few)) (rw c.cat_types.ensures.second at c.start_term-two.ensures))

pub start_in_turn-returns-in-Err : goal.start_in_turn-returns-in-Err
start_in_turn-returns-in-Err t c =
    let a = c.args in
    let x = op_run a.code.now a.k a.scope.now a.past.now.value (op_term a.a.now.value) (cat_first (type_of a.r.now)) in
    let y = op_run a.code.now a.k a.scope.now a.past.now.value (op_term a.b.now.value) (cat_second (type_of a.r.now)) in
    part_ends (λ f. cat_spent_first x y a.left f) (λ f. cat_deep_first x y a.levels f) (rw c.cat_types.ensures.first at c.in-Err.ensures)

pub reach_pair-returns : goal.reach_pair-returns
reach_pair-returns t c =
    further_in refl refl refl (c.in-Ok.ensures _) (rw (c.par_types.ensures.left, c.par_types.ensures.right, c.type_at.ensures, c.par_parts.ensures.left, c.par_parts.ensures.right, c.stream_at.ensures) at c.reach.ensures)

pub reach_row-returns : goal.reach_row-returns
reach_row-returns t c = same_leads (search rules) (search rules) (further_in refl refl refl (c.in-Ok-into_cut.ensures _) c.reach.ensures)

pub reach_sum-returns-in-Ok : goal.reach_sum-returns-in-Ok
reach_sum-returns-in-Ok t c = rw c.requires.form (same_leads (search rules) (search rules) (further_in refl refl refl (c.in-Ok.ensures _) c.reach.ensures))

pub reach_sum-returns-in-Ok-into_alias : goal.reach_sum-returns-in-Ok-into_alias
reach_sum-returns-in-Ok-into_alias t c = rw c.requires.form (same_leads (search rules) (search rules) (further_in refl refl refl (c.in-Ok-into_alias.ensures _) c.reach-in-Right.ensures))

pub reach_sum-returns-in-Nothing : goal.reach_sum-returns-in-Nothing
reach_sum-returns-in-Nothing t c =
    rw c.requires.form (same_leads (search rules) (search rules) (c.given.ensures c.args.code.now c.args.k c.args.way.now _ _ c.args.left c.args.levels c.hold_sum.ensures.run (IfOk-weaker c.hold_sum.result _ _ (λ a e. eased_same (sym e)) c.hold_sum.ensures.rest)
    (IfOk-weaker c.hold_sum.result _ _ (λ a e. let few = ap (λ (r : Run). r.calls) e in omega (arith, few)) c.hold_sum.ensures.run) (IfOk-weaker c.hold_sum.result _ _ (λ a e. let low = ap (λ (r : Run). r.level) e in omega (arith, low)) c.hold_sum.ensures.run)))

pub reach_star-returns-in-Over : goal.reach_star-returns-in-Over
reach_star-returns-in-Over t c = rw c.requires.form (same_leads (search rules) (search rules) c.reach.ensures)

pub reach_star-returns-in-Ok-into_row : goal.reach_star-returns-in-Ok-into_row
reach_star-returns-in-Ok-into_row t c = rw c.requires.form (same_leads (search rules) (search rules) (further_in refl refl refl (c.in-Ok-into_row.ensures _) c.reach-in-First.ensures))

pub reach_star-returns-in-Ok-into_two : goal.reach_star-returns-in-Ok-into_two
reach_star-returns-in-Ok-into_two t c = rw c.requires.form (same_leads (search rules) (search rules) (further_in refl refl refl (c.in-Ok-into_two.ensures _) c.reach-in-Item.ensures))

pub reach_star-returns-in-Nothing : goal.reach_star-returns-in-Nothing
reach_star-returns-in-Nothing t c =
    rw c.requires.form (same_leads (search rules) (search rules) (c.given.ensures c.args.code.now c.args.k c.args.way.now _ _ c.args.left c.args.levels c.hold_star.ensures.run (IfOk-weaker c.hold_star.result _ _ (λ a e. eased_same (sym e)) c.hold_star.ensures.rest)
    (IfOk-weaker c.hold_star.result _ _ (λ a e. let few = ap (λ (r : Run). r.calls) e in omega (arith, few)) c.hold_star.ensures.run) (IfOk-weaker c.hold_star.result _ _ (λ a e. let low = ap (λ (r : Run). r.level) e in omega (arith, low)) c.hold_star.ensures.run)))

pub reach_wait-returns-then-not-maximal : goal.reach_wait-returns-then-not-maximal
reach_wait-returns-then-not-maximal t c =
    rw c.requires.form (same_leads (search rules) (search rules) (c.given.ensures c.args.code.now c.args.k c.args.way.now _ _ c.args.left c.args.levels c.hold_wait.ensures.run (IfOk-weaker c.hold_wait.result _ _ (λ a e. eased_same (sym e)) c.hold_wait.ensures.rest)
    (IfOk-weaker c.hold_wait.result _ _ (λ a e. let few = ap (λ (r : Run). r.calls) e in omega (arith, few)) c.hold_wait.ensures.run) (IfOk-weaker c.hold_wait.result _ _ (λ a e. let low = ap (λ (r : Run). r.level) e in omega (arith, low)) c.hold_wait.ensures.run)))

pub reach_wait-returns : goal.reach_wait-returns
reach_wait-returns t c = rw c.requires.form (same_leads (search rules) (search rules) c.reach.ensures)

pub enter-returns-then-left-eq0 : goal.enter-returns-then-left-eq0
enter-returns-then-left-eq0 t c =
    lost _ _ _ _ _ _ _ _ _ (λ q. let h = one_at_least (funs_of c.args.code.now) c.args.f c.args.k (map hist_value_of c.args.values.now) (map prefix_of c.args.streams.now) (omega arith) in omega (arith, h)) (λ q. cc)

pub enter-returns-in_default : goal.enter-returns-in_default
enter-returns-in_default t c =
    let some : 0 < c.args.k = omega arith in
    c.given.ensures c.args.code.now (c.args.k - 1) c.args.way.now _ _ c.args.left c.args.levels (IfOk-weaker c.missing.result _ _ (λ a h. h c.args.k _ _ some) c.missing.ensures.run)
    (IfOk-weaker c.missing.result _ _ (λ a h. eased_same (sym (h c.args.k _ _ some))) c.missing.ensures.rest) (IfOk-weaker c.missing.result _ _ (λ a h. omega (arith, h)) c.missing.ensures.counted) (IfOk-weaker c.missing.result _ _ (λ a h. omega (arith, h)) c.missing.ensures.flat)

pub enter-reach-requires : goal.enter-reach-requires
enter-reach-requires t c =
    let funs = bodies_in c.args.code.now in
    let same : op_term c.in-Some.body.now.body.value ≡ (fun_at funs c.args.f).body = ap (λ (b : CoreBody). b.body) c.in-Some.ensures.body in
    let light : weight (op_term c.in-Some.body.now.body.value) ≤ heaviest funs = subst (λ (e : CoreTerm). weight e ≤ heaviest funs) (sym same) (heaviest_is funs c.args.f) in
    let less : (c.args.k - 1) * suc (heaviest funs) + weight (op_term c.in-Some.body.now.body.value) < c.args.k * suc (heaviest funs) + 1 = body_weighs_less c.args.k (heaviest funs) (weight (op_term c.in-Some.body.now.body.value)) (omega arith) light in
    let four : 4 * ((c.args.k - 1) * suc (heaviest funs) + weight (op_term c.in-Some.body.now.body.value)) < 4 * (c.args.k * suc (heaviest funs)) + 5 = omega (arith, less) in
    search rules

pub enter-returns : goal.enter-returns
enter-returns t c =
    let a = c.args in
    let funs = funs_of a.code.now in
    let d = a.k - 1 in
    let past = known_in c.in-Ok.seen.past.value in
    let same_run = ap (λ (l : List Entry). one_call (run_at funs d (funs a.f).body (types_held (map entry_in l)) (funs a.f).result (prefixes_held (map entry_in l)) (past_in past))) c.deref.ensures.value in
    let there_run = ap (λ (b : CoreBody). one_call (run_at funs d b.body (types_held (map entry_in c.deref.result.now)) b.result (prefixes_held (map entry_in c.deref.result.now)) (past_in past))) c.in-Some.ensures.body in
    let same_rest = ap (λ (l : List Entry). rest_at funs d (funs a.f).body (types_held (map entry_in l)) (funs a.f).result (prefixes_held (map entry_in l)) past) c.deref.ensures.value in
    let there_rest = ap (λ (b : CoreBody). rest_at funs d b.body (types_held (map entry_in c.deref.result.now)) b.result (prefixes_held (map entry_in c.deref.result.now)) past) c.in-Some.ensures.body in
    let run = there_run ∙ (same_run ∙ sym (c.in-Ok.ensures.runs a.k (omega arith))) in
    let rest = there_rest ∙ (same_rest ∙ sym (c.in-Ok.ensures.rests a.k (omega arith))) in
    let calls = c.into_body.ensures.calls in
    let level = c.into_body.ensures.level in
    let more = ap (λ (r : Run). r.calls) run in
    let flat = ap (λ (r : Run). r.level) run in
    onward c.reach.ensures (c.into_body.ensures.run _ ∙ ap (after a.way.now) run) (eased_same (λ i. within (sym c.into_body.ensures.rest i) (sym rest i))) (omega (arith, calls)) (omega (arith, level)) (λ f. omega (arith, more, f)) (λ f. omega (arith, flat, f))

pub go_on-calls-init : goal.go_on-calls-init
go_on-calls-init t c = (refl, (eased_same refl, (c.requires.counted, (c.requires.shallow, omega arith))))

pub go_on-calls-preserved : goal.go_on-calls-preserved
go_on-calls-preserved t c =
    let code = c.args.code.now in
    let i = c.calls.invariant in
    let run : reached_run code c.calls.k c.calls.reached ≡ call_at (funs_of code) c.calls.k c.in-Call.f (map hist_value_of c.deref.result.now) (map prefix_of c.deref-in-Call.result.now) =
    ap (reached_run code c.calls.k) c.in-Call.is ∙ ap₂ (λ vs ps. call_at (funs_of code) c.calls.k c.in-Call.f (map hist_value_of vs) (map prefix_of ps)) (sym c.deref.ensures.value) (sym c.deref-in-Call.ensures.value) in
    let rest : reached_rest code c.calls.k c.calls.reached ≡ call_rest_at (funs_of code) c.calls.k c.in-Call.f (map hist_value_of c.deref.result.now) (map prefix_of c.deref-in-Call.result.now) =
    ap (reached_rest code c.calls.k) c.in-Call.is ∙ ap₂ (λ vs ps. call_rest_at (funs_of code) c.calls.k c.in-Call.f (map hist_value_of vs) (map prefix_of ps)) (sym c.deref.ensures.value) (sym c.deref-in-Call.ensures.value) in
    let given = c.in_ok-reached-in-Call.ensures in
    let few = i.1.1.0 in
    let low = i.1.1.1.0 in
    let less = i.1.1.1.1 in
    let counted = given.counted in
    let shallow = given.shallow in (
      given.run ∙ (ap (after c.calls.way) (sym run) ∙ i.0),
      (
        eased_then i.1.0 (eased_then (within_eased c.calls.way.layers (eased_same rest)) given.rest),
        (omega (arith, counted, few), (omega (arith, shallow, low), omega (arith, less))),
      ),
    )

pub go_on-returns-in-Given : goal.go_on-returns-in-Given
go_on-returns-in-Given t c =
    let code = c.args.code.now in
    let i = c.calls.invariant in
    let e = c.arrived.ensures in
    let run = ap (reached_run code c.calls.k) (sym c.in-Given.is) in
    let rest = ap (reached_rest code c.calls.k) c.in-Given.is in
    let calls = ap reached_calls c.in-Given.is in
    let level = ap reached_level c.in-Given.is in
    let few = i.1.1.0 in
    let low = i.1.1.1.0 in
    c.made.ensures _ _ c.args.left c.args.levels (IfOk-weaker c.arrived.result _ _ (λ a h. h ∙ (ap (after c.calls.way) run ∙ i.0)) e.run)
    (IfOk-weaker c.arrived.result _ _ (λ a h. eased_then i.1.0 (eased_then (within_eased c.calls.way.layers (eased_same rest)) (eased_same (sym h)))) e.rest)
    (IfOk-weaker c.arrived.result _ _ (λ a h. omega (arith, h, few, calls)) e.calls) (IfOk-weaker c.arrived.result _ _ (λ a h. omega (arith, h, low, level)) e.level)

pub go_on-returns-in_err-reached-in-Call : goal.go_on-returns-in_err-reached-in-Call
go_on-returns-in_err-reached-in-Call t c =
    let code = c.args.code.now in
    let i = c.calls.invariant in
    let run : reached_run code c.calls.k c.calls.reached ≡ call_at (funs_of code) c.calls.k c.in-Call.f (map hist_value_of c.deref.result.now) (map prefix_of c.deref-in-Call.result.now) =
    ap (reached_run code c.calls.k) c.in-Call.is ∙ ap₂ (λ vs ps. call_at (funs_of code) c.calls.k c.in-Call.f (map hist_value_of vs) (map prefix_of ps)) (sym c.deref.ensures.value) (sym c.deref-in-Call.ensures.value) in
    let same = ap (after c.calls.way) (sym run) ∙ i.0 in
    let few = i.1.1.0 in
    let exit = err_from_is_err_and c.from_residual.result c.from_residual.ensures.1 in
    rw (exit.1, exit.2) (stopped _ _ _ _ _ (λ q. gained_spent _ _ _ _ _ _ same (omega (arith, few)) (c.in_err-reached-in-Call.ensures.spent q)) (λ q. gained_deep _ _ _ _ _ _ same (c.in_err-reached-in-Call.ensures.deep q)))

pub reach_cons-returns-in_err-head : goal.reach_cons-returns-in_err-head
reach_cons-returns-in_err-head t c =
    let a = c.args in
    let x = op_run a.code.now a.k a.scope.now a.past.now.value (op_term c.items.item.now.value) (star_item (type_of a.r.now)) in
    let y = op_run a.code.now a.k a.scope.now a.past.now.value (op_term c.items.more.now.value) (star_items (type_of a.r.now)) in
    let exit = err_from_is_err_and c.from_residual.result c.from_residual.ensures.1 in
    let head = rw c.star_types.ensures.item at c.in_err-head.ensures in
    rw (exit.1, exit.2) (chain_leads c.items.invariant.0 (lead_stops (λ f. cat_spent_first x y c.items.left f) (λ f. cat_deep_first x y a.levels f) head))

pub reach_cons-returns-then-not-maximal : goal.reach_cons-returns-then-not-maximal
reach_cons-returns-then-not-maximal t c =
    let a = c.args in
    let item = op_term c.items.item.now.value in
    let more = op_term c.items.more.now.value in
    let head = c.in_ok-head.head in
    let same = c.star_types.ensures.item in
    let first = rw c.star_types.ensures.item at c.in_ok-head.ensures in
    let waits : is_maximal (run_of head).out ≡ false = search rules in
    let left = cons_waits a.code.now a.k a.scope.now a.past.now.value item more (type_of a.r.now) (run_of head) (rest_of head) first.run waits first.rest in
    let run = cons_begins a.code.now a.k a.scope.now a.past.now.value item more (type_of a.r.now) (run_of head) first.run waits in
    let few = first.counted in
    let low = first.shallow in
    let e = c.before_items.ensures in
    chain_leads c.items.invariant.0 (c.given.ensures a.code.now a.k c.items.way _ _ c.items.left a.levels (IfOk-weaker c.before_items.result _ _ (λ b h. h ∙ run) e.run)
    (IfOk-weaker c.before_items.result _ _ (λ b h. eased_then left (eased_same (sym h))) e.rest)
    (IfOk-weaker c.before_items.result _ _ (λ b h. let calls = ap (λ (r : Run). r.calls) h in omega (arith, calls, few)) e.run)
    (IfOk-weaker c.before_items.result _ _ (λ b h. let level = ap (λ (r : Run). r.level) h in omega (arith, level, low)) e.run))

pub reach_cons-returns-in_default-deref : goal.reach_cons-returns-in_default-deref
reach_cons-returns-in_default-deref t c =
    let a = c.args in
    let item = op_term c.items.item.now.value in
    let more = op_term c.items.more.now.value in
    let first = rw c.star_types.ensures.item at c.in_ok-head.ensures in
    let on = c.in-Ok.ensures in
    let behind = chain_behind a.code.now a.k a.scope.now a.past.now.value item more (type_of a.r.now) c.items.invariant.0 first.run (search rules) first.counted first.shallow on.run on.rest on.calls on.level in
    chain_leads behind (rw c.star_types.ensures.items at c.reach.ensures)

pub reach_cons-items-preserved : goal.reach_cons-items-preserved
reach_cons-items-preserved t c =
    let a = c.args in
    let item = op_term c.items.item.now.value in
    let more = op_term c.items.more.now.value in
    let next = op_term c.in-Cons.next.value in
    let others = op_term c.in-Cons.after.value in
    let run = c.in_ok-head.ensures.run ∙ ap (op_run a.code.now a.k a.scope.now a.past.now.value item) c.star_types.ensures.item in
    let is : more ≡ cons_term next others = ap op_term (sym c.deref-in-items.ensures ∙ c.in-Cons.is) in
    let on = c.in-Ok.ensures in
    let behind = chain_behind a.code.now a.k a.scope.now a.past.now.value item more (type_of a.r.now) c.items.invariant.0 run (search rules) c.in_ok-head.ensures.counted c.in_ok-head.ensures.shallow on.run on.rest on.calls on.level in
    let light = c.items.invariant.1 in
    let heavy = ap weight is in
    (chain_again a.code.now a.k a.scope.now a.past.now.value more next others (type_of a.r.now) behind is, omega (arith, light, heavy))

pub reach_let-returns-in_err-head : goal.reach_let-returns-in_err-head
reach_let-returns-in_err-head t c =
    let a = c.args in
    let known = c.lets.known.value in
    let types = types_over c.lets.lets.items (types_in a.scope.now) in
    let streams = streams_over c.lets.lets.items (streams_in a.scope.now) in
    let x = run_where a.code.now a.k known (op_term c.lets.a.now.value) types (type_of c.lets.s.now) streams in
    let y = run_where a.code.now a.k known (op_term c.lets.b.now.value) (put c.lets.x.0 (type_of c.lets.s.now) types) (type_of a.r.now) (put c.lets.x.0 x.out streams) in
    let exit = err_from_is_err_and c.from_residual.result c.from_residual.ensures.1 in
    let head = rw c.deref.ensures.value at c.in_err-head.ensures in
    rw (exit.1, exit.2) (nest_leads c.lets.invariant.0 (lead_stops (λ f. omega (arith, f)) (λ f. let_deep_head (is_var (op_term c.lets.a.now.value)) x y a.levels c.inside.result c.inside.ensures f) head))

pub reach_let-returns-then-not-maximal : goal.reach_let-returns-then-not-maximal
reach_let-returns-then-not-maximal t c =
    let a = c.args in
    let known = c.lets.known.value in
    let rest = op_term c.lets.b.now.value in
    let ty = type_of c.lets.s.now in
    let types = types_over c.deref.result.now (types_in a.scope.now) in
    let streams = streams_over c.deref.result.now (streams_in a.scope.now) in
    let head = c.in_ok-head.head in
    let few : head.calls ≤ c.lets.left = c.in_ok-head.ensures.counted in
    let named : is_var (op_term c.lets.a.now.value) ≡ false = search rules in
    let waits : (false || is_maximal (prefix_of head.output.value)) ≡ false = search rules in
    let deeper = c.inside-then-not-maximal.ensures in
    let after : c.inside-then-not-maximal.result ≡ below (false || is_maximal (prefix_of head.output.value)) a.levels = rw waits deeper in
    let out = ap (λ (p : Prefix). prefix_of p) c.deref-then-not-maximal.ensures ∙ ap (λ (r : Run). r.out) c.in_ok-head.ensures.run in
    let body = subst (λ (p : StreamPrefix). Gives c.start_term-body.result (run_where a.code.now a.k known rest (put c.lets.x.0 ty types) (type_of a.r.now) (put c.lets.x.0 p streams)) (rest_where a.code.now a.k known rest (put c.lets.x.0 ty types) (type_of a.r.now) (put c.lets.x.0 p streams)) (c.lets.left - head.calls) c.inside-then-not-maximal.result) out c.start_term-body.ensures in
    let all = c.let_done.ensures _ _ _ _ c.lets.left _ a.levels _ (rw c.inside.ensures at c.in_ok-head.ensures) (omega (arith, few)) after body in
    nest_leads c.lets.invariant.0 (c.at_place.ensures _ _ _ _ _ _ _ (rw named (rw c.deref.ensures.value at all)))

pub reach_let-returns-in_default-deref : goal.reach_let-returns-in_default-deref
reach_let-returns-in_default-deref t c =
    let a = c.args in
    let head = rw c.deref.ensures.value at c.in_ok-head.ensures in
    let on = c.in-Ok-into_let.ensures in
    let to = c.in-Ok-bind.ensures in
    let there = c.in-Ok-inward.ensures in
    let named : c.is_var-in-lets.result ≡ is_var (op_term c.lets.a.now.value) = c.is_var-in-lets.ensures ∙ ap (λ (o : Op). is_var (op_term o)) c.deref-in-lets-2.ensures in
    let shut : (c.is_var-in-lets.result || is_maximal (run_of c.in_ok-head.head).out) ≡ true = search rules in
    let low = head.shallow in
    let below = c.inside.ensures in
    let streams : (d : Environment) → streams_over c.bind.new.entries.items d ≡ put c.lets.x.0 (run_of c.in_ok-head.head).out (streams_over c.lets.lets.items d) = λ d. to.streams d ∙ ap (λ (p : Prefix). put c.lets.x.0 (prefix_of p) (streams_over c.lets.lets.items d)) on.output in
    let inner = nest_inward a.code.now a.k c.lets.known.value c.inward.new.past.value c.lets.lets.items c.bind.new.entries.items c.inward.new.lets.items c.lets.x.0 (type_of c.lets.s.now) (op_term c.lets.a.now.value) (op_term c.lets.b.now.value) (op_term c.in-Ok-inward.body.now.value) a.scope.now (type_of a.r.now) c.is_var-in-lets.result
    c.into_let.new.way (record { items = c.into_let.new.way.items; calls = c.into_let.new.way.calls; level = c.into_let.new.way.level; layers = c.inward.new.layers })
    c.lets.invariant.0 head.run head.rest named shut head.counted (omega (arith, low, below)) on.run on.rest on.calls on.level to.types streams (there.run a.code.now a.k (type_of a.r.now)) (there.rest a.code.now a.k (type_of a.r.now)) refl refl refl in
    nest_leads inner (rw c.deref-in_default-deref.ensures.value at c.reach.ensures)

pub reach_let-lets-preserved : goal.reach_let-lets-preserved
reach_let-lets-preserved t c =
    let a = c.args in
    let head = rw c.deref.ensures.value at c.in_ok-head.ensures in
    let on = c.in-Ok-into_let.ensures in
    let to = c.in-Ok-bind.ensures in
    let there = c.in-Ok-inward.ensures in
    let named : c.is_var-in-lets.result ≡ is_var (op_term c.lets.a.now.value) = c.is_var-in-lets.ensures ∙ ap (λ (o : Op). is_var (op_term o)) c.deref-in-lets-2.ensures in
    let shut : (c.is_var-in-lets.result || is_maximal (run_of c.in_ok-head.head).out) ≡ true = search rules in
    let low = head.shallow in
    let below = c.inside.ensures in
    let streams : (d : Environment) → streams_over c.bind.new.entries.items d ≡ put c.lets.x.0 (run_of c.in_ok-head.head).out (streams_over c.lets.lets.items d) = λ d. to.streams d ∙ ap (λ (p : Prefix). put c.lets.x.0 (prefix_of p) (streams_over c.lets.lets.items d)) on.output in
    let inner = nest_inward a.code.now a.k c.lets.known.value c.inward.new.past.value c.lets.lets.items c.bind.new.entries.items c.inward.new.lets.items c.lets.x.0 (type_of c.lets.s.now) (op_term c.lets.a.now.value) (op_term c.lets.b.now.value) (op_term c.in-Ok-inward.body.now.value) a.scope.now (type_of a.r.now) c.is_var-in-lets.result
    c.into_let.new.way (record { items = c.into_let.new.way.items; calls = c.into_let.new.way.calls; level = c.into_let.new.way.level; layers = c.inward.new.layers })
    c.lets.invariant.0 head.run head.rest named shut head.counted (omega (arith, low, below)) on.run on.rest on.calls on.level to.types streams (there.run a.code.now a.k (type_of a.r.now)) (there.rest a.code.now a.k (type_of a.r.now)) refl refl refl in
    let is = ap op_term (sym c.deref-in-lets-3.ensures ∙ c.in-Let.is) in
    let light = c.lets.invariant.1 in
    let lighter = there.light in
    let heavy = ap weight is in (
      nest_is inner
          (ap (λ (e : CoreTerm). run_where a.code.now a.k c.inward.new.past.value e (types_over c.inward.new.lets.items (types_in a.scope.now)) (type_of a.r.now) (streams_over c.inward.new.lets.items (streams_in a.scope.now))) is)
          (ap (λ (e : CoreTerm). rest_where a.code.now a.k c.inward.new.past.value e (types_over c.inward.new.lets.items (types_in a.scope.now)) (type_of a.r.now) (streams_over c.inward.new.lets.items (streams_in a.scope.now))) is),
      omega (arith, light, lighter, heavy),
    )

pub reach_call-returns-then-levels-eq0 : goal.reach_call-returns-then-levels-eq0
reach_call-returns-then-levels-eq0 t c = λ r. lost _ _ _ _ _ _ _ _ _ (λ q. cc) (λ q. omega arith)

pub reach_call-returns-then-arguments : goal.reach_call-returns-then-arguments
reach_call-returns-then-arguments t c = λ r.
    let a = c.args in
    let args = rw (c.deref-2.ensures.value, c.in-Ok-params_of.ensures.types, c.in-Ok-params_of.ensures.names, c.inside-deeper.ensures) at c.in-Ok-start_arguments.ensures in
    let on = c.in-Ok-into_call.ensures in
    let given = rw c.deref.ensures at c.in-Ok.ensures in
    let outs = ap (λ (v : Vec Prefix Global). map prefix_of v.items) on.outputs ∙ ap (λ (z : Runs). z.outs) args.runs in
    let calls = on.calls in
    let level = on.level in
    let few = args.counted in
    let low = args.shallow in
    record {
      run = on.run _ ∙ (λ i. after a.way.now (call_run (args.runs i) (call_at (funs_of a.code.now) a.k a.f (given i) (outs i))));
      rest = eased_then (within_eased a.way.now.layers (frame_eased args.rests (eased_same (λ i. call_rest_at (funs_of a.code.now) a.k a.f (sym given i) (sym outs i))) refl refl)) (on.rest _);
      counted = omega (arith, calls, few);
      shallow = omega (arith, level, low);
      spent = tt;
      deep = tt;
    }

pub reach_call-returns-in-Ok-start_arguments : goal.reach_call-returns-in-Ok-start_arguments
reach_call-returns-in-Ok-start_arguments t c = λ r.
    let a = c.args in
    let args = rw (c.deref-2.ensures.value, c.in-Ok-params_of.ensures.types, c.in-Ok-params_of.ensures.names, c.inside-deeper.ensures) at c.in-Ok-start_arguments.ensures in
    let few : c.in-Ok-start_arguments.arguments.calls ≤ a.left = args.counted in
    let some : 0 < a.levels = omega arith in
    let given = ap (λ (l : List Value). map hist_value_of l) c.deref-in-Ok-start_arguments.ensures.value ∙ (rw c.deref.ensures at c.in-Ok.ensures) in
    let outs = ap (λ (l : List Prefix). map prefix_of l) c.deref-in-Ok-start_arguments-2.ensures.value ∙ ap (λ (z : Runs). z.outs) args.runs in
    let under : c.inside-deeper.result ≡ below c.in-Ok-start_arguments.arguments.are_shut a.levels = rw c.if-arguments.false c.inside-deeper.ensures in
    c.at_place.ensures _ _ _ _ _ _ _ (c.call_done.ensures _ _ _ _ _ _ a.levels _ args (omega (arith, few)) some under (rw (given, outs) at c.start_body-body.ensures))

pub start_arguments-returns-in_default : goal.start_arguments-returns-in_default
start_arguments-returns-in_default t c =
    let no = c.no_arguments.result in
    let made = c.all_made.ensures no_runs no_arguments c.args.left c.args.levels c.no_arguments.ensures.runs (IfOk-weaker no _ _ (λ a e. same_arguments (record { by = as_they_are }) refl e) c.no_arguments.ensures.rests)
    (IfOk-weaker no _ _ (λ a e. omega (arith, e)) c.no_arguments.ensures.none) (IfOk-weaker no _ _ (λ a e. let low = ap (λ (r : Runs). r.level) e in omega (arith, low)) c.no_arguments.ensures.runs) in
    same_gives_all (search rules) (search rules) made

pub start_arguments-returns-in-None : goal.start_arguments-returns-in-None
start_arguments-returns-in-None t c =
    let is : operand_terms c.args.es.now ≡ term_before (op_term c.in-Before.e.value) (operand_terms c.deref.result.now) = ap operand_terms c.in-Before.is ∙ ap (λ (l : Operands). term_before (op_term c.in-Before.e.value) (operand_terms l)) (sym c.deref.ensures) in
    let none = nil_from_length c.args.params.now c.in-None.ensures.cases in
    rw (is, none) c.start_unnamed.ensures

pub start_arguments-returns-in-Some : goal.start_arguments-returns-in-Some
start_arguments-returns-in-Some t c = same_gives_all (search rules) (search rules) c.start_argument.ensures

pub start_unnamed-returns-in-Ok : goal.start_unnamed-returns-in-Ok
start_unnamed-returns-in-Ok t c =
    let few : c.in-Ok.a.calls ≤ c.args.left = c.in-Ok.ensures.counted in
    same_gives_all (search rules) (search rules) (c.unnamed_done.ensures _ _ _ _ _ _ _ c.in-Ok.ensures (omega (arith, few)) c.start_arguments-others.ensures)

pub start_unnamed-returns-in-Err : goal.start_unnamed-returns-in-Err
start_unnamed-returns-in-Err t c = argument_ends (λ f. omega (arith, f)) (λ f. omega (arith, f)) c.in-Err.ensures

pub start_argument-returns-in-Ok : goal.start_argument-returns-in-Ok
start_argument-returns-in-Ok t c =
    let few : c.in-Ok.a.calls ≤ c.args.left = c.in-Ok.ensures.counted in
    same_gives_all (search rules) (search rules) (c.argument_done.ensures _ _ _ _ _ _ _ c.in-Ok.ensures (omega (arith, few)) c.start_arguments-others.ensures)

pub start_argument-returns-in-Err : goal.start_argument-returns-in-Err
start_argument-returns-in-Err t c = argument_ends (λ f. omega (arith, f)) (λ f. omega (arith, f)) c.in-Err.ensures

pub reach_let-lets-init : goal.reach_let-lets-init
reach_let-lets-init t c =
    let a = c.args in
    let all = let_term a.x.0 (type_of a.s.now) (op_term a.a.now.value) (op_term a.b.now.value) in
    let known = sym c.in-Ok.ensures.cases in
    let none = sym c.new-lets.ensures.items in (
      nest_is (nest_begins (op_run a.code.now a.k a.scope.now a.past.now.value all (type_of a.r.now)) (op_rest a.code.now a.k a.scope.now a.past.now.value all (type_of a.r.now)) a.way.now a.left a.levels)
          (λ i. run_where a.code.now a.k (known i) all (types_over (none i) (types_in a.scope.now)) (type_of a.r.now) (streams_over (none i) (streams_in a.scope.now)))
          (λ i. rest_where a.code.now a.k (known i) all (types_over (none i) (types_in a.scope.now)) (type_of a.r.now) (streams_over (none i) (streams_in a.scope.now))),
      omega arith,
    )
