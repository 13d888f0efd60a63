-- What each form of an expression and of a head is, and what each part of the evaluator asks: less weight and room for calls.
use Rattle.std.proofs.Common.{◌≡◌, ◌+◌, ◌-◌, ◌<◌, List, map, IfOk, IfErr, refl, sym, ap, ap₂, ◌∙◌, subst, arith, rules, ℕ, ◌≤◌, Bool, true, false}
use Rattle.std.proofs.lemmas.Result.{IfOk-weaker, MatchResult-weaker, err_from_is_err_and}
use Rattle.stream_type.specs.StreamType.{type_of}
use Rattle.stream_prefix.specs.Tree.{prefix_of}
use Rattle.delta_tree.specs.declared.expressions.Exp.{Exp}
use Rattle.delta_tree.specs.declared.expressions.Hist.{Hist}
use Rattle.delta_tree.specs.SyntaxTree.{wait_at, call_at, call_head}
use Rattle.delta_tree.specs.Tree.{expression_of, expressions_of, expression_form_of, head_of, head_form_of, hist_of}
use Rattle.delta_tree.proofs.Rows.{expression_form_of-call, head_form_of-call}
use Rattle.core_term.specs.Run.{Run, Runs, par_run, let_run}
use Rattle.core_term.proofs.RunsInTurn.{spent_after, cat_run_first, cat_run_both, cat_spent_first, cat_spent_second}
use Rattle.stream_prefix.specs.StreamPrefix.{is_maximal}
use Rattle.core_term.specs.Params.{names_in, types_listed}
use Rattle.delta_meaning.specs.CallRuns.{StopsAmong}
use Rattle.delta_meaning.specs.SourceMeaning.{is_name_head}
use Rattle.delta_meaning.specs.Evaluated.{run_of}
use Rattle.delta_meaning.specs.Functions.{run_at, head_run_at, head_type_at, run_after}
use Rattle.delta_meaning.specs.Weights.{weight, weight_after, weight_of_head, weight_of_all}
use Rattle.stream_type.specs.declared.ty.Ty.{Ty}
use Rattle.stream_type.specs.StreamType.{eps}
use Rattle.stream_prefix.specs.StreamPrefix.{eps_emp}
use Rattle.bunch.specs.declared.name.Name.{Name}
use Rattle.bunch.specs.Names.{value_at}
use Rattle.hist_value.specs.declared.history.Value.{Value}
use Rattle.hist_value.specs.HistValue.{unit_value, hist_value_of}
use Rattle.hist_value.specs.Environment.{environment_of}
use Rattle.core_term.specs.Environment.{by_side}
use Rattle.core_term.specs.Meaning.{no_past}
use Rattle.core_term.specs.Run.{one_call}
use Rattle.delta_meaning.specs.KnownTypes.{names_known}
use Rattle.delta_meaning.specs.SourceMeaning.{source_run, source_body_run, source_call_at}
use Rattle.delta_meaning.specs.Functions.{functions_at}
use Rattle.delta_meaning.proofs.Evaluations.{call_with_depth}
use Rattle.delta_meaning.proofs.Runs.{body_runs}
use Rattle.delta_meaning.proofs.evaluation.+evaluate.Goals as goal

pub evaluate-returns-in-Var-clause-run : goal.evaluate-returns-in-Var-clause-run
evaluate-returns-in-Var-clause-run t c =
    let there : c.args.e.now.form.value ≡ c.deref.result.now = sym c.deref.ensures in
    rw (there, c.in-Var.is) c.name_run.ensures.run

pub evaluate-returns-in-Var-clause-counted : goal.evaluate-returns-in-Var-clause-counted
evaluate-returns-in-Var-clause-counted t c =
    c.name_run.ensures.counted c.args.left

pub evaluate-returns-in-Var-clause-spent : goal.evaluate-returns-in-Var-clause-spent
evaluate-returns-in-Var-clause-spent t c =
    c.name_run.ensures.spent (functions_at c.args.place.now) c.args.left _

pub evaluate-returns-in-Past-clause-run : goal.evaluate-returns-in-Past-clause-run
evaluate-returns-in-Past-clause-run t c =
    let there : c.args.e.now.form.value ≡ c.deref.result.now = sym c.deref.ensures in
    rw (there, c.in-Past.is) c.past_run.ensures.run

pub evaluate-returns-in-Past-clause-counted : goal.evaluate-returns-in-Past-clause-counted
evaluate-returns-in-Past-clause-counted t c =
    c.past_run.ensures.counted c.args.left

pub evaluate-returns-in-Past-clause-spent : goal.evaluate-returns-in-Past-clause-spent
evaluate-returns-in-Past-clause-spent t c =
    c.past_run.ensures.spent (functions_at c.args.place.now) c.args.left _

pub evaluate-returns-in-Cons-clause-run : goal.evaluate-returns-in-Cons-clause-run
evaluate-returns-in-Cons-clause-run t c =
    let there : c.args.e.now.form.value ≡ c.deref.result.now = sym c.deref.ensures in
    rw (there, c.in-Cons.is) c.evaluate_star.ensures.run

pub evaluate-returns-in-Cons-clause-counted : goal.evaluate-returns-in-Cons-clause-counted
evaluate-returns-in-Cons-clause-counted t c =
    c.evaluate_star.ensures.counted

pub evaluate-returns-in-Cons-clause-spent : goal.evaluate-returns-in-Cons-clause-spent
evaluate-returns-in-Cons-clause-spent t c =
    let there : c.args.e.now.form.value ≡ c.deref.result.now = sym c.deref.ensures in
    rw (there, c.in-Cons.is) c.evaluate_star.ensures.spent

pub evaluate-returns-in-Inl-clause-run : goal.evaluate-returns-in-Inl-clause-run
evaluate-returns-in-Inl-clause-run t c =
    let there : c.args.e.now.form.value ≡ c.deref.result.now = sym c.deref.ensures in
    rw (there, c.in-Inl.is) c.evaluate_left.ensures.run

pub evaluate-returns-in-Inl-clause-counted : goal.evaluate-returns-in-Inl-clause-counted
evaluate-returns-in-Inl-clause-counted t c =
    c.evaluate_left.ensures.counted

pub evaluate-returns-in-Inl-clause-spent : goal.evaluate-returns-in-Inl-clause-spent
evaluate-returns-in-Inl-clause-spent t c =
    let there : c.args.e.now.form.value ≡ c.deref.result.now = sym c.deref.ensures in
    rw (there, c.in-Inl.is) c.evaluate_left.ensures.spent

pub evaluate-returns-in-Inr-clause-run : goal.evaluate-returns-in-Inr-clause-run
evaluate-returns-in-Inr-clause-run t c =
    let there : c.args.e.now.form.value ≡ c.deref.result.now = sym c.deref.ensures in
    rw (there, c.in-Inr.is) c.evaluate_right.ensures.run

pub evaluate-returns-in-Inr-clause-counted : goal.evaluate-returns-in-Inr-clause-counted
evaluate-returns-in-Inr-clause-counted t c =
    c.evaluate_right.ensures.counted

pub evaluate-returns-in-Inr-clause-spent : goal.evaluate-returns-in-Inr-clause-spent
evaluate-returns-in-Inr-clause-spent t c =
    let there : c.args.e.now.form.value ≡ c.deref.result.now = sym c.deref.ensures in
    rw (there, c.in-Inr.is) c.evaluate_right.ensures.spent

pub evaluate-returns-in-Asc-clause-run : goal.evaluate-returns-in-Asc-clause-run
evaluate-returns-in-Asc-clause-run t c =
    let there : c.args.e.now.form.value ≡ c.deref.result.now = sym c.deref.ensures in
    rw (there, c.in-Asc.is) c.evaluate_typed.ensures.run

pub evaluate-returns-in-Asc-clause-counted : goal.evaluate-returns-in-Asc-clause-counted
evaluate-returns-in-Asc-clause-counted t c =
    c.evaluate_typed.ensures.counted

pub evaluate-returns-in-Asc-clause-spent : goal.evaluate-returns-in-Asc-clause-spent
evaluate-returns-in-Asc-clause-spent t c =
    let there : c.args.e.now.form.value ≡ c.deref.result.now = sym c.deref.ensures in
    rw (there, c.in-Asc.is) c.evaluate_typed.ensures.spent

pub evaluate-returns-in-If-clause-run : goal.evaluate-returns-in-If-clause-run
evaluate-returns-in-If-clause-run t c =
    let there : c.args.e.now.form.value ≡ c.deref.result.now = sym c.deref.ensures in
    rw (there, c.in-If.is) c.evaluate_if.ensures.run

pub evaluate-returns-in-If-clause-counted : goal.evaluate-returns-in-If-clause-counted
evaluate-returns-in-If-clause-counted t c =
    c.evaluate_if.ensures.counted

pub evaluate-returns-in-If-clause-spent : goal.evaluate-returns-in-If-clause-spent
evaluate-returns-in-If-clause-spent t c =
    let there : c.args.e.now.form.value ≡ c.deref.result.now = sym c.deref.ensures in
    rw (there, c.in-If.is) c.evaluate_if.ensures.spent

pub evaluate-returns-in-Let-clause-run : goal.evaluate-returns-in-Let-clause-run
evaluate-returns-in-Let-clause-run t c =
    let there : c.args.e.now.form.value ≡ c.deref.result.now = sym c.deref.ensures in
    let i = c.args.place.now in
    let s = c.args.scope.now in
    let e = c.args.e.now in
    let r = type_of c.args.ty.now in
    let h = head_of c.in-Let.h in
    let a = head_run_at i s h in
    let same : let_run (is_name_head h) a (run_after i s (expression_of e) r (head_type_at i s h) a.out) ≡ run_at i s (expression_of e) r = rw (there, c.in-Let.is) refl in
    subst (λ (z : Run). IfOk c.evaluate_with_head.result (λ b. run_of b ≡ z)) same c.evaluate_with_head.ensures.run

pub evaluate-returns-in-Let-clause-counted : goal.evaluate-returns-in-Let-clause-counted
evaluate-returns-in-Let-clause-counted t c =
    c.evaluate_with_head.ensures.counted

pub evaluate-returns-in-Let-clause-spent : goal.evaluate-returns-in-Let-clause-spent
evaluate-returns-in-Let-clause-spent t c =
    let there : c.args.e.now.form.value ≡ c.deref.result.now = sym c.deref.ensures in
    let i = c.args.place.now in
    let s = c.args.scope.now in
    let e = c.args.e.now in
    let r = type_of c.args.ty.now in
    let h = head_of c.in-Let.h in
    let a = head_run_at i s h in
    let same : let_run (is_name_head h) a (run_after i s (expression_of e) r (head_type_at i s h) a.out) ≡ run_at i s (expression_of e) r = rw (there, c.in-Let.is) refl in
    subst (λ (z : Run). IfErr c.evaluate_with_head.result (λ b. StopsAmong (functions_at i) c.args.left z.calls b)) same c.evaluate_with_head.ensures.spent

pub evaluate-returns-in-LetPar-clause-run : goal.evaluate-returns-in-LetPar-clause-run
evaluate-returns-in-LetPar-clause-run t c =
    let there : c.args.e.now.form.value ≡ c.deref.result.now = sym c.deref.ensures in
    let i = c.args.place.now in
    let s = c.args.scope.now in
    let e = c.args.e.now in
    let r = type_of c.args.ty.now in
    let h = head_of c.in-LetPar.h in
    let a = head_run_at i s h in
    let same : let_run (is_name_head h) a (run_after i s (expression_of e) r (head_type_at i s h) a.out) ≡ run_at i s (expression_of e) r = rw (there, c.in-LetPar.is) refl in
    subst (λ (z : Run). IfOk c.evaluate_with_head-in-LetPar.result (λ b. run_of b ≡ z)) same c.evaluate_with_head-in-LetPar.ensures.run

pub evaluate-returns-in-LetPar-clause-counted : goal.evaluate-returns-in-LetPar-clause-counted
evaluate-returns-in-LetPar-clause-counted t c =
    c.evaluate_with_head-in-LetPar.ensures.counted

pub evaluate-returns-in-LetPar-clause-spent : goal.evaluate-returns-in-LetPar-clause-spent
evaluate-returns-in-LetPar-clause-spent t c =
    let there : c.args.e.now.form.value ≡ c.deref.result.now = sym c.deref.ensures in
    let i = c.args.place.now in
    let s = c.args.scope.now in
    let e = c.args.e.now in
    let r = type_of c.args.ty.now in
    let h = head_of c.in-LetPar.h in
    let a = head_run_at i s h in
    let same : let_run (is_name_head h) a (run_after i s (expression_of e) r (head_type_at i s h) a.out) ≡ run_at i s (expression_of e) r = rw (there, c.in-LetPar.is) refl in
    subst (λ (z : Run). IfErr c.evaluate_with_head-in-LetPar.result (λ b. StopsAmong (functions_at i) c.args.left z.calls b)) same c.evaluate_with_head-in-LetPar.ensures.spent

pub evaluate-returns-in-LetCat-clause-run : goal.evaluate-returns-in-LetCat-clause-run
evaluate-returns-in-LetCat-clause-run t c =
    let there : c.args.e.now.form.value ≡ c.deref.result.now = sym c.deref.ensures in
    let i = c.args.place.now in
    let s = c.args.scope.now in
    let e = c.args.e.now in
    let r = type_of c.args.ty.now in
    let h = head_of c.in-LetCat.h in
    let a = head_run_at i s h in
    let same : let_run (is_name_head h) a (run_after i s (expression_of e) r (head_type_at i s h) a.out) ≡ run_at i s (expression_of e) r = rw (there, c.in-LetCat.is) refl in
    subst (λ (z : Run). IfOk c.evaluate_with_head-in-LetCat.result (λ b. run_of b ≡ z)) same c.evaluate_with_head-in-LetCat.ensures.run

pub evaluate-returns-in-LetCat-clause-counted : goal.evaluate-returns-in-LetCat-clause-counted
evaluate-returns-in-LetCat-clause-counted t c =
    c.evaluate_with_head-in-LetCat.ensures.counted

pub evaluate-returns-in-LetCat-clause-spent : goal.evaluate-returns-in-LetCat-clause-spent
evaluate-returns-in-LetCat-clause-spent t c =
    let there : c.args.e.now.form.value ≡ c.deref.result.now = sym c.deref.ensures in
    let i = c.args.place.now in
    let s = c.args.scope.now in
    let e = c.args.e.now in
    let r = type_of c.args.ty.now in
    let h = head_of c.in-LetCat.h in
    let a = head_run_at i s h in
    let same : let_run (is_name_head h) a (run_after i s (expression_of e) r (head_type_at i s h) a.out) ≡ run_at i s (expression_of e) r = rw (there, c.in-LetCat.is) refl in
    subst (λ (z : Run). IfErr c.evaluate_with_head-in-LetCat.result (λ b. StopsAmong (functions_at i) c.args.left z.calls b)) same c.evaluate_with_head-in-LetCat.ensures.spent

pub evaluate-returns-in-CaseSum-clause-run : goal.evaluate-returns-in-CaseSum-clause-run
evaluate-returns-in-CaseSum-clause-run t c =
    let there : c.args.e.now.form.value ≡ c.deref.result.now = sym c.deref.ensures in
    let i = c.args.place.now in
    let s = c.args.scope.now in
    let e = c.args.e.now in
    let r = type_of c.args.ty.now in
    let h = head_of c.in-CaseSum.h in
    let a = head_run_at i s h in
    let same : let_run (is_name_head h) a (run_after i s (expression_of e) r (head_type_at i s h) a.out) ≡ run_at i s (expression_of e) r = rw (there, c.in-CaseSum.is) refl in
    subst (λ (z : Run). IfOk c.evaluate_with_head-in-CaseSum.result (λ b. run_of b ≡ z)) same c.evaluate_with_head-in-CaseSum.ensures.run

pub evaluate-returns-in-CaseSum-clause-counted : goal.evaluate-returns-in-CaseSum-clause-counted
evaluate-returns-in-CaseSum-clause-counted t c =
    c.evaluate_with_head-in-CaseSum.ensures.counted

pub evaluate-returns-in-CaseSum-clause-spent : goal.evaluate-returns-in-CaseSum-clause-spent
evaluate-returns-in-CaseSum-clause-spent t c =
    let there : c.args.e.now.form.value ≡ c.deref.result.now = sym c.deref.ensures in
    let i = c.args.place.now in
    let s = c.args.scope.now in
    let e = c.args.e.now in
    let r = type_of c.args.ty.now in
    let h = head_of c.in-CaseSum.h in
    let a = head_run_at i s h in
    let same : let_run (is_name_head h) a (run_after i s (expression_of e) r (head_type_at i s h) a.out) ≡ run_at i s (expression_of e) r = rw (there, c.in-CaseSum.is) refl in
    subst (λ (z : Run). IfErr c.evaluate_with_head-in-CaseSum.result (λ b. StopsAmong (functions_at i) c.args.left z.calls b)) same c.evaluate_with_head-in-CaseSum.ensures.spent

pub evaluate-returns-in-CaseStar-clause-run : goal.evaluate-returns-in-CaseStar-clause-run
evaluate-returns-in-CaseStar-clause-run t c =
    let there : c.args.e.now.form.value ≡ c.deref.result.now = sym c.deref.ensures in
    let i = c.args.place.now in
    let s = c.args.scope.now in
    let e = c.args.e.now in
    let r = type_of c.args.ty.now in
    let h = head_of c.in-CaseStar.h in
    let a = head_run_at i s h in
    let same : let_run (is_name_head h) a (run_after i s (expression_of e) r (head_type_at i s h) a.out) ≡ run_at i s (expression_of e) r = rw (there, c.in-CaseStar.is) refl in
    subst (λ (z : Run). IfOk c.evaluate_with_head-in-CaseStar.result (λ b. run_of b ≡ z)) same c.evaluate_with_head-in-CaseStar.ensures.run

pub evaluate-returns-in-CaseStar-clause-counted : goal.evaluate-returns-in-CaseStar-clause-counted
evaluate-returns-in-CaseStar-clause-counted t c =
    c.evaluate_with_head-in-CaseStar.ensures.counted

pub evaluate-returns-in-CaseStar-clause-spent : goal.evaluate-returns-in-CaseStar-clause-spent
evaluate-returns-in-CaseStar-clause-spent t c =
    let there : c.args.e.now.form.value ≡ c.deref.result.now = sym c.deref.ensures in
    let i = c.args.place.now in
    let s = c.args.scope.now in
    let e = c.args.e.now in
    let r = type_of c.args.ty.now in
    let h = head_of c.in-CaseStar.h in
    let a = head_run_at i s h in
    let same : let_run (is_name_head h) a (run_after i s (expression_of e) r (head_type_at i s h) a.out) ≡ run_at i s (expression_of e) r = rw (there, c.in-CaseStar.is) refl in
    subst (λ (z : Run). IfErr c.evaluate_with_head-in-CaseStar.result (λ b. StopsAmong (functions_at i) c.args.left z.calls b)) same c.evaluate_with_head-in-CaseStar.ensures.spent

pub evaluate-returns-in-Wait-clause-run : goal.evaluate-returns-in-Wait-clause-run
evaluate-returns-in-Wait-clause-run t c =
    let there : c.args.e.now.form.value ≡ c.deref.result.now = sym c.deref.ensures in
    let e = c.args.e.now in
    let is : expression_of e ≡ wait_at e.at c.in-Wait.x.0 (expression_of c.in-Wait.e) = ap (expression_form_of e.at) (there ∙ c.in-Wait.is) in
    rw is (IfOk-weaker c.evaluate_wait.result _ _ (λ a h. h e.at) c.evaluate_wait.ensures.run)

pub evaluate-returns-in-Wait-clause-spent : goal.evaluate-returns-in-Wait-clause-spent
evaluate-returns-in-Wait-clause-spent t c =
    let there : c.args.e.now.form.value ≡ c.deref.result.now = sym c.deref.ensures in
    let e = c.args.e.now in
    let is : expression_of e ≡ wait_at e.at c.in-Wait.x.0 (expression_of c.in-Wait.e) = ap (expression_form_of e.at) (there ∙ c.in-Wait.is) in
    rw is (MatchResult-weaker c.evaluate_wait.result c.evaluate_wait.ensures.spent (λ x u. u) (λ y h. h e.at))

pub evaluate-evaluate_call-requires : goal.evaluate-evaluate_call-requires
evaluate-evaluate_call-requires t c =
    let there : c.args.e.now.form.value ≡ c.deref.result.now = sym c.deref.ensures in
    let e = c.args.e.now in
    let is : expression_of e ≡ call_at e.at c.in-Call.f.0 (map hist_of c.in-Call.ms.items) (expressions_of c.in-Call.es.items) = ap (expression_form_of e.at) (there ∙ c.in-Call.is) ∙ expression_form_of-call e.at c.in-Call.f c.in-Call.ms c.in-Call.es in
    let heavy : weight (expression_of e) ≡ 4 + weight_of_all (expressions_of c.deref-in-Call-2.result.now) = ap weight is ∙ ap (λ (l : List Exp). 4 + weight_of_all (expressions_of l)) (sym c.deref-in-Call-2.ensures.value) in
    search rules

pub evaluate-returns-in-Call-clause-run : goal.evaluate-returns-in-Call-clause-run
evaluate-returns-in-Call-clause-run t c =
    let there : c.args.e.now.form.value ≡ c.deref.result.now = sym c.deref.ensures in
    let e = c.args.e.now in
    let is : expression_of e ≡ call_at e.at c.in-Call.f.0 (map hist_of c.deref-in-Call.result.now) (expressions_of c.deref-in-Call-2.result.now) =
    ap (expression_form_of e.at) (there ∙ c.in-Call.is) ∙ (expression_form_of-call e.at c.in-Call.f c.in-Call.ms c.in-Call.es ∙ ap₂ (λ (m : List Hist) (l : List Exp). call_at e.at c.in-Call.f.0 (map hist_of m) (expressions_of l)) (sym c.deref-in-Call.ensures.value) (sym c.deref-in-Call-2.ensures.value)) in
    rw is (IfOk-weaker c.evaluate_call.result _ _ (λ a h. h e.at) c.evaluate_call.ensures.run)

pub evaluate-returns-in-Call-clause-spent : goal.evaluate-returns-in-Call-clause-spent
evaluate-returns-in-Call-clause-spent t c =
    let there : c.args.e.now.form.value ≡ c.deref.result.now = sym c.deref.ensures in
    let e = c.args.e.now in
    let is : expression_of e ≡ call_at e.at c.in-Call.f.0 (map hist_of c.deref-in-Call.result.now) (expressions_of c.deref-in-Call-2.result.now) =
    ap (expression_form_of e.at) (there ∙ c.in-Call.is) ∙ (expression_form_of-call e.at c.in-Call.f c.in-Call.ms c.in-Call.es ∙ ap₂ (λ (m : List Hist) (l : List Exp). call_at e.at c.in-Call.f.0 (map hist_of m) (expressions_of l)) (sym c.deref-in-Call.ensures.value) (sym c.deref-in-Call-2.ensures.value)) in
    rw is (MatchResult-weaker c.evaluate_call.result c.evaluate_call.ensures.spent (λ x u. u) (λ y h. h e.at))

pub evaluate_with_head-returns-clause-run : goal.evaluate_with_head-returns-clause-run
evaluate_with_head-returns-clause-run t c =
    let i = c.args.place.now in
    let s = c.args.scope.now in
    let e = expression_of c.args.e.now in
    let r = type_of c.args.ty.now in
    let h = head_of c.args.h.now in
    subst (λ (z : Run). IfOk c.evaluate_let.result (λ b. run_of b ≡ let_run (is_name_head h) z (run_after i s e r (head_type_at i s h) z.out))) c.in_ok-head.ensures.run c.evaluate_let.ensures.run

pub evaluate_with_head-returns-clause-spent : goal.evaluate_with_head-returns-clause-spent
evaluate_with_head-returns-clause-spent t c =
    let i = c.args.place.now in
    let s = c.args.scope.now in
    let e = expression_of c.args.e.now in
    let r = type_of c.args.ty.now in
    let h = head_of c.args.h.now in
    subst (λ (z : Run). IfErr c.evaluate_let.result (λ b. StopsAmong (functions_at i) c.args.left (z.calls + (run_after i s e r (head_type_at i s h) z.out).calls) b)) c.in_ok-head.ensures.run c.evaluate_let.ensures.spent

pub evaluate_bound-returns-in-Let-clause-run : goal.evaluate_bound-returns-in-Let-clause-run
evaluate_bound-returns-in-Let-clause-run t c =
    let there : c.args.e.now.form.value ≡ c.deref.result.now = sym c.deref.ensures in
    rw (there, c.in-Let.is) c.evaluate_one.ensures.run

pub evaluate_bound-returns-in-Let-clause-counted : goal.evaluate_bound-returns-in-Let-clause-counted
evaluate_bound-returns-in-Let-clause-counted t c =
    c.evaluate_one.ensures.counted

pub evaluate_bound-returns-in-Let-clause-spent : goal.evaluate_bound-returns-in-Let-clause-spent
evaluate_bound-returns-in-Let-clause-spent t c =
    let there : c.args.e.now.form.value ≡ c.deref.result.now = sym c.deref.ensures in
    rw (there, c.in-Let.is) c.evaluate_one.ensures.spent

pub evaluate_bound-returns-in-LetCat-clause-run : goal.evaluate_bound-returns-in-LetCat-clause-run
evaluate_bound-returns-in-LetCat-clause-run t c =
    let there : c.args.e.now.form.value ≡ c.deref.result.now = sym c.deref.ensures in
    rw (there, c.in-LetCat.is) c.evaluate_parts.ensures.run

pub evaluate_bound-returns-in-LetCat-clause-counted : goal.evaluate_bound-returns-in-LetCat-clause-counted
evaluate_bound-returns-in-LetCat-clause-counted t c =
    c.evaluate_parts.ensures.counted

pub evaluate_bound-returns-in-LetCat-clause-spent : goal.evaluate_bound-returns-in-LetCat-clause-spent
evaluate_bound-returns-in-LetCat-clause-spent t c =
    let there : c.args.e.now.form.value ≡ c.deref.result.now = sym c.deref.ensures in
    rw (there, c.in-LetCat.is) c.evaluate_parts.ensures.spent

pub evaluate_bound-returns-in-CaseSum-clause-run : goal.evaluate_bound-returns-in-CaseSum-clause-run
evaluate_bound-returns-in-CaseSum-clause-run t c =
    let there : c.args.e.now.form.value ≡ c.deref.result.now = sym c.deref.ensures in
    rw (there, c.in-CaseSum.is) c.evaluate_side.ensures.run

pub evaluate_bound-returns-in-CaseSum-clause-counted : goal.evaluate_bound-returns-in-CaseSum-clause-counted
evaluate_bound-returns-in-CaseSum-clause-counted t c =
    c.evaluate_side.ensures.counted

pub evaluate_bound-returns-in-CaseSum-clause-spent : goal.evaluate_bound-returns-in-CaseSum-clause-spent
evaluate_bound-returns-in-CaseSum-clause-spent t c =
    let there : c.args.e.now.form.value ≡ c.deref.result.now = sym c.deref.ensures in
    rw (there, c.in-CaseSum.is) c.evaluate_side.ensures.spent

pub evaluate_bound-returns-in-CaseStar-clause-run : goal.evaluate_bound-returns-in-CaseStar-clause-run
evaluate_bound-returns-in-CaseStar-clause-run t c =
    let there : c.args.e.now.form.value ≡ c.deref.result.now = sym c.deref.ensures in
    rw (there, c.in-CaseStar.is) c.evaluate_item.ensures.run

pub evaluate_bound-returns-in-CaseStar-clause-counted : goal.evaluate_bound-returns-in-CaseStar-clause-counted
evaluate_bound-returns-in-CaseStar-clause-counted t c =
    c.evaluate_item.ensures.counted

pub evaluate_bound-returns-in-CaseStar-clause-spent : goal.evaluate_bound-returns-in-CaseStar-clause-spent
evaluate_bound-returns-in-CaseStar-clause-spent t c =
    let there : c.args.e.now.form.value ≡ c.deref.result.now = sym c.deref.ensures in
    rw (there, c.in-CaseStar.is) c.evaluate_item.ensures.spent

pub evaluate_bound-returns-in-Var-clause-counted : goal.evaluate_bound-returns-in-Var-clause-counted
evaluate_bound-returns-in-Var-clause-counted t c =
    c.nothing_run.ensures.counted c.args.left

pub evaluate_bound-returns-in-Var-clause-spent : goal.evaluate_bound-returns-in-Var-clause-spent
evaluate_bound-returns-in-Var-clause-spent t c =
    c.nothing_run.ensures.spent (functions_at c.args.place.now) c.args.left _

pub evaluate_side-returns-in-Nothing-clause-counted : goal.evaluate_side-returns-in-Nothing-clause-counted
evaluate_side-returns-in-Nothing-clause-counted t c =
    c.nothing_run.ensures.counted c.args.left

pub evaluate_side-returns-in-Nothing-clause-spent : goal.evaluate_side-returns-in-Nothing-clause-spent
evaluate_side-returns-in-Nothing-clause-spent t c =
    c.nothing_run.ensures.spent (functions_at c.args.place.now) c.args.left _

pub evaluate_item-returns-clause-counted : goal.evaluate_item-returns-clause-counted
evaluate_item-returns-clause-counted t c =
    c.nothing_run.ensures.counted c.args.left

pub evaluate_item-returns-clause-spent : goal.evaluate_item-returns-clause-spent
evaluate_item-returns-clause-spent t c =
    c.nothing_run.ensures.spent (functions_at c.args.place.now) c.args.left _

pub evaluate_wait-returns-in-None-clause-counted : goal.evaluate_wait-returns-in-None-clause-counted
evaluate_wait-returns-in-None-clause-counted t c =
    c.nothing_run.ensures.counted c.args.left

pub evaluate_wait-returns-in-None-clause-spent : goal.evaluate_wait-returns-in-None-clause-spent
evaluate_wait-returns-in-None-clause-spent t c =
    MatchResult-weaker c.nothing_run.result (c.nothing_run.ensures.spent (functions_at c.args.place.now) c.args.left 0) (λ x u. u) (λ y h at b p m. absurd (omega (arith, h b p m)))

pub evaluate_head-returns-in-Var-clause-run : goal.evaluate_head-returns-in-Var-clause-run
evaluate_head-returns-in-Var-clause-run t c =
    let there : c.args.h.now.form.value ≡ c.deref.result.now = sym c.deref.ensures in
    rw (there, c.in-Var.is) c.name_run.ensures.run

pub evaluate_head-returns-in-Var-clause-counted : goal.evaluate_head-returns-in-Var-clause-counted
evaluate_head-returns-in-Var-clause-counted t c =
    c.name_run.ensures.counted c.args.left

pub evaluate_head-returns-in-Var-clause-spent : goal.evaluate_head-returns-in-Var-clause-spent
evaluate_head-returns-in-Var-clause-spent t c =
    c.name_run.ensures.spent (functions_at c.args.place.now) c.args.left _

pub evaluate_head-returns-in-Asc-clause-run : goal.evaluate_head-returns-in-Asc-clause-run
evaluate_head-returns-in-Asc-clause-run t c =
    let there : c.args.h.now.form.value ≡ c.deref.result.now = sym c.deref.ensures in
    rw (there, c.in-Asc.is) c.evaluate_at_type.ensures.run

pub evaluate_head-returns-in-Asc-clause-counted : goal.evaluate_head-returns-in-Asc-clause-counted
evaluate_head-returns-in-Asc-clause-counted t c =
    c.evaluate_at_type.ensures.counted

pub evaluate_head-returns-in-Asc-clause-spent : goal.evaluate_head-returns-in-Asc-clause-spent
evaluate_head-returns-in-Asc-clause-spent t c =
    let there : c.args.h.now.form.value ≡ c.deref.result.now = sym c.deref.ensures in
    rw (there, c.in-Asc.is) c.evaluate_at_type.ensures.spent

pub evaluate_head-evaluate_call-requires : goal.evaluate_head-evaluate_call-requires
evaluate_head-evaluate_call-requires t c =
    let there : c.args.h.now.form.value ≡ c.deref.result.now = sym c.deref.ensures in
    let h = c.args.h.now in
    let is : head_of h ≡ call_head h.at c.in-Call.f.0 (map hist_of c.in-Call.ms.items) (expressions_of c.in-Call.es.items) = ap (head_form_of h.at) (there ∙ c.in-Call.is) ∙ head_form_of-call h.at c.in-Call.f c.in-Call.ms c.in-Call.es in
    let heavy : weight_of_head (head_of h) ≡ 4 + weight_of_all (expressions_of c.deref-in-Call-2.result.now) = ap weight_of_head is ∙ ap (λ (l : List Exp). 4 + weight_of_all (expressions_of l)) (sym c.deref-in-Call-2.ensures.value) in
    search rules

pub evaluate_head-returns-in-Call-clause-run : goal.evaluate_head-returns-in-Call-clause-run
evaluate_head-returns-in-Call-clause-run t c =
    let there : c.args.h.now.form.value ≡ c.deref.result.now = sym c.deref.ensures in
    let h = c.args.h.now in
    let is : head_of h ≡ call_head h.at c.in-Call.f.0 (map hist_of c.deref-in-Call.result.now) (expressions_of c.deref-in-Call-2.result.now) =
    ap (head_form_of h.at) (there ∙ c.in-Call.is) ∙ (head_form_of-call h.at c.in-Call.f c.in-Call.ms c.in-Call.es ∙ ap₂ (λ (m : List Hist) (l : List Exp). call_head h.at c.in-Call.f.0 (map hist_of m) (expressions_of l)) (sym c.deref-in-Call.ensures.value) (sym c.deref-in-Call-2.ensures.value)) in
    rw is (IfOk-weaker c.evaluate_call.result _ _ (λ a k. k h.at) c.evaluate_call.ensures.run)

pub evaluate_head-returns-in-Call-clause-spent : goal.evaluate_head-returns-in-Call-clause-spent
evaluate_head-returns-in-Call-clause-spent t c =
    let there : c.args.h.now.form.value ≡ c.deref.result.now = sym c.deref.ensures in
    let h = c.args.h.now in
    let is : head_of h ≡ call_head h.at c.in-Call.f.0 (map hist_of c.deref-in-Call.result.now) (expressions_of c.deref-in-Call-2.result.now) =
    ap (head_form_of h.at) (there ∙ c.in-Call.is) ∙ (head_form_of-call h.at c.in-Call.f c.in-Call.ms c.in-Call.es ∙ ap₂ (λ (m : List Hist) (l : List Exp). call_head h.at c.in-Call.f.0 (map hist_of m) (expressions_of l)) (sym c.deref-in-Call.ensures.value) (sym c.deref-in-Call-2.ensures.value)) in
    rw is (MatchResult-weaker c.evaluate_call.result c.evaluate_call.ensures.spent (λ x u. u) (λ y k. k h.at))

pub evaluate_body-returns-clause-run : goal.evaluate_body-returns-clause-run
evaluate_body-returns-clause-run t c =
    let i = c.args.place.now in
    let f = c.in-Some.function.now in
    let fs = functions_at i in
    let call = source_call_at fs (i.depth - 1) in
    let vs = map hist_value_of c.args.values.now in
    let ps = map prefix_of c.args.streams.now in
    let xs = names_in c.deref-4.result.now in
    let ts = types_listed c.deref-4.result.now in
    let past = environment_of c.deref-5.result.now in
    let hidden : past ≡ by_side xs no_past (value_at unit_value (names_in f.past.items) vs) =
    ap (λ (l : List (Name × Value)). environment_of l) c.deref-5.ensures.value
    ∙ (c.in_ok-past.ensures ∙ ap₂ (λ (a b : List (Name × Ty)). by_side (names_in a) no_past (value_at unit_value (names_in b) vs)) (c.deref-2.ensures.value ∙ sym c.deref-4.ensures.value) c.deref.ensures.value) in
    let whole = body_runs fs call f (fs c.args.f.0) vs ps xs ts past c.in-Some.ensures.named (ap names_in c.deref-4.ensures.value ∙ c.in_ok-params.ensures.names) (ap types_listed c.deref-4.ensures.value ∙ c.in_ok-params.ensures.types) hidden in
    let run : run_of c.in_ok-run.run' ≡ source_body_run fs call (fs c.args.f.0) vs ps =
    c.in_ok-run.ensures.run ∙ (ap (λ (l : List (Name × Ty)). source_run fs call (names_known l) (expression_of f.body.now) (value_at eps xs ts) (type_of f.result) (value_at eps_emp xs ps) past) c.deref-3.ensures.value ∙ whole) in
    c.one_call-2.ensures ∙ (ap one_call run ∙ sym (call_with_depth fs i.depth c.args.f.0 vs ps (omega arith)))

pub evaluate_body-returns-in_err-run-clause-spent : goal.evaluate_body-returns-in_err-run-clause-spent
evaluate_body-returns-in_err-run-clause-spent t c =
    let i = c.args.place.now in
    let f = c.in-Some.function.now in
    let fs = functions_at i in
    let call = source_call_at fs (i.depth - 1) in
    let vs = map hist_value_of c.args.values.now in
    let ps = map prefix_of c.args.streams.now in
    let xs = names_in c.deref-4.result.now in
    let ts = types_listed c.deref-4.result.now in
    let past = environment_of c.deref-5.result.now in
    let hidden : past ≡ by_side xs no_past (value_at unit_value (names_in f.past.items) vs) =
    ap (λ (l : List (Name × Value)). environment_of l) c.deref-5.ensures.value
    ∙ (c.in_ok-past.ensures ∙ ap₂ (λ (a b : List (Name × Ty)). by_side (names_in a) no_past (value_at unit_value (names_in b) vs)) (c.deref-2.ensures.value ∙ sym c.deref-4.ensures.value) c.deref.ensures.value) in
    let whole = body_runs fs call f (fs c.args.f.0) vs ps xs ts past c.in-Some.ensures.named (ap names_in c.deref-4.ensures.value ∙ c.in_ok-params.ensures.names) (ap types_listed c.deref-4.ensures.value ∙ c.in_ok-params.ensures.types) hidden in
    let same = ap (λ (l : List (Name × Ty)). source_run fs call (names_known l) (expression_of f.body.now) (value_at eps xs ts) (type_of f.result) (value_at eps_emp xs ps) past) c.deref-3.ensures.value ∙ whole in
    let exit = err_from_is_err_and c.from_residual-in_err-run.result c.from_residual-in_err-run.ensures.1 in
    rw (exit.1, exit.2) (λ b q m.
    let less : c.args.left - 1 < (source_body_run fs call (fs c.args.f.0) vs ps).calls = subst (λ (z : Run). c.args.left - 1 < z.calls) same (c.in_err-run.ensures.spent b q m) in
    let calls : (source_call_at fs i.depth c.args.f.0 vs ps).calls ≡ 1 + (source_body_run fs call (fs c.args.f.0) vs ps).calls = ap (λ (z : Run). z.calls) (call_with_depth fs i.depth c.args.f.0 vs ps (omega arith)) in
    omega arith)

pub evaluate-evaluate_both-requires : goal.evaluate-evaluate_both-requires
evaluate-evaluate_both-requires t c =
    let there : c.args.e.now.form.value ≡ c.deref.result.now = sym c.deref.ensures in
    let heavier = ap weight (ap (expression_form_of c.args.e.now.at) (there ∙ c.in-Par.is)) in
    (omega (arith, heavier), (c.requires.room, c.requires.answers))

pub evaluate-evaluate_in_turn-requires : goal.evaluate-evaluate_in_turn-requires
evaluate-evaluate_in_turn-requires t c =
    let there : c.args.e.now.form.value ≡ c.deref.result.now = sym c.deref.ensures in
    let heavier = ap weight (ap (expression_form_of c.args.e.now.at) (there ∙ c.in-Cat.is)) in
    (omega (arith, heavier), (c.requires.room, c.requires.answers))

pub evaluate-evaluate_star-requires : goal.evaluate-evaluate_star-requires
evaluate-evaluate_star-requires t c =
    let there : c.args.e.now.form.value ≡ c.deref.result.now = sym c.deref.ensures in
    let heavier = ap weight (ap (expression_form_of c.args.e.now.at) (there ∙ c.in-Cons.is)) in
    (omega (arith, heavier), (c.requires.room, c.requires.answers))

pub evaluate-evaluate_left-requires : goal.evaluate-evaluate_left-requires
evaluate-evaluate_left-requires t c =
    let there : c.args.e.now.form.value ≡ c.deref.result.now = sym c.deref.ensures in
    let heavier = ap weight (ap (expression_form_of c.args.e.now.at) (there ∙ c.in-Inl.is)) in
    (omega (arith, heavier), (c.requires.room, c.requires.answers))

pub evaluate-evaluate_right-requires : goal.evaluate-evaluate_right-requires
evaluate-evaluate_right-requires t c =
    let there : c.args.e.now.form.value ≡ c.deref.result.now = sym c.deref.ensures in
    let heavier = ap weight (ap (expression_form_of c.args.e.now.at) (there ∙ c.in-Inr.is)) in
    (omega (arith, heavier), (c.requires.room, c.requires.answers))

pub evaluate-evaluate_typed-requires : goal.evaluate-evaluate_typed-requires
evaluate-evaluate_typed-requires t c =
    let there : c.args.e.now.form.value ≡ c.deref.result.now = sym c.deref.ensures in
    let heavier = ap weight (ap (expression_form_of c.args.e.now.at) (there ∙ c.in-Asc.is)) in
    (omega (arith, heavier), (c.requires.room, c.requires.answers))

pub evaluate-evaluate_wait-requires : goal.evaluate-evaluate_wait-requires
evaluate-evaluate_wait-requires t c =
    let there : c.args.e.now.form.value ≡ c.deref.result.now = sym c.deref.ensures in
    let heavier = ap weight (ap (expression_form_of c.args.e.now.at) (there ∙ c.in-Wait.is)) in
    (omega (arith, heavier), (c.requires.room, c.requires.answers))

pub evaluate-evaluate_if-requires : goal.evaluate-evaluate_if-requires
evaluate-evaluate_if-requires t c =
    let there : c.args.e.now.form.value ≡ c.deref.result.now = sym c.deref.ensures in
    let heavier = ap weight (ap (expression_form_of c.args.e.now.at) (there ∙ c.in-If.is)) in
    (omega (arith, heavier), (c.requires.room, c.requires.answers))

pub evaluate-evaluate_with_head-requires : goal.evaluate-evaluate_with_head-requires
evaluate-evaluate_with_head-requires t c =
    let there : c.args.e.now.form.value ≡ c.deref.result.now = sym c.deref.ensures in
    let is = ap (expression_form_of c.args.e.now.at) (there ∙ c.in-Let.is) in
    let heavier = ap weight is in
    let after = ap weight_after is in
    (omega (arith, heavier, after), (c.requires.room, c.requires.answers))

pub evaluate-evaluate_with_head-requires-in-LetPar : goal.evaluate-evaluate_with_head-requires-in-LetPar
evaluate-evaluate_with_head-requires-in-LetPar t c =
    let there : c.args.e.now.form.value ≡ c.deref.result.now = sym c.deref.ensures in
    let is = ap (expression_form_of c.args.e.now.at) (there ∙ c.in-LetPar.is) in
    let heavier = ap weight is in
    let after = ap weight_after is in
    (omega (arith, heavier, after), (c.requires.room, c.requires.answers))

pub evaluate-evaluate_with_head-requires-in-LetCat : goal.evaluate-evaluate_with_head-requires-in-LetCat
evaluate-evaluate_with_head-requires-in-LetCat t c =
    let there : c.args.e.now.form.value ≡ c.deref.result.now = sym c.deref.ensures in
    let is = ap (expression_form_of c.args.e.now.at) (there ∙ c.in-LetCat.is) in
    let heavier = ap weight is in
    let after = ap weight_after is in
    (omega (arith, heavier, after), (c.requires.room, c.requires.answers))

pub evaluate-evaluate_with_head-requires-in-CaseSum : goal.evaluate-evaluate_with_head-requires-in-CaseSum
evaluate-evaluate_with_head-requires-in-CaseSum t c =
    let there : c.args.e.now.form.value ≡ c.deref.result.now = sym c.deref.ensures in
    let is = ap (expression_form_of c.args.e.now.at) (there ∙ c.in-CaseSum.is) in
    let heavier = ap weight is in
    let after = ap weight_after is in
    (omega (arith, heavier, after), (c.requires.room, c.requires.answers))

pub evaluate-evaluate_with_head-requires-in-CaseStar : goal.evaluate-evaluate_with_head-requires-in-CaseStar
evaluate-evaluate_with_head-requires-in-CaseStar t c =
    let there : c.args.e.now.form.value ≡ c.deref.result.now = sym c.deref.ensures in
    let is = ap (expression_form_of c.args.e.now.at) (there ∙ c.in-CaseStar.is) in
    let heavier = ap weight is in
    let after = ap weight_after is in
    (omega (arith, heavier, after), (c.requires.room, c.requires.answers))

pub evaluate_both-evaluate-requires : goal.evaluate_both-evaluate-requires
evaluate_both-evaluate-requires t c =
    (omega arith, (c.requires.room, c.requires.answers))

pub evaluate_in_turn-evaluate-requires : goal.evaluate_in_turn-evaluate-requires
evaluate_in_turn-evaluate-requires t c =
    (omega arith, (c.requires.room, c.requires.answers))

pub evaluate_star-evaluate_in_turn-requires : goal.evaluate_star-evaluate_in_turn-requires
evaluate_star-evaluate_in_turn-requires t c =
    (omega arith, (c.requires.room, c.requires.answers))

pub evaluate_left-evaluate-requires : goal.evaluate_left-evaluate-requires
evaluate_left-evaluate-requires t c =
    (omega arith, (c.requires.room, c.requires.answers))

pub evaluate_right-evaluate-requires : goal.evaluate_right-evaluate-requires
evaluate_right-evaluate-requires t c =
    (omega arith, (c.requires.room, c.requires.answers))

pub evaluate_typed-evaluate_at_type-requires : goal.evaluate_typed-evaluate_at_type-requires
evaluate_typed-evaluate_at_type-requires t c =
    (omega arith, (c.requires.room, c.requires.answers))

pub evaluate_if-evaluate-requires : goal.evaluate_if-evaluate-requires
evaluate_if-evaluate-requires t c =
    (omega arith, (c.requires.room, c.requires.answers))

pub evaluate_at_type-evaluate-requires : goal.evaluate_at_type-evaluate-requires
evaluate_at_type-evaluate-requires t c =
    (omega arith, (c.requires.room, c.requires.answers))

pub evaluate_wait-evaluate-requires : goal.evaluate_wait-evaluate-requires
evaluate_wait-evaluate-requires t c =
    (omega arith, (c.requires.room, c.requires.answers))

pub evaluate_with_head-evaluate_head-requires : goal.evaluate_with_head-evaluate_head-requires
evaluate_with_head-evaluate_head-requires t c =
    (omega arith, (c.requires.room, c.requires.answers))

pub evaluate_after-evaluate_bound-requires : goal.evaluate_after-evaluate_bound-requires
evaluate_after-evaluate_bound-requires t c =
    (omega arith, (c.requires.room, c.requires.answers))

pub evaluate_parts-evaluate_two-requires : goal.evaluate_parts-evaluate_two-requires
evaluate_parts-evaluate_two-requires t c =
    (omega arith, (c.requires.room, c.requires.answers))

pub evaluate_side-evaluate_one-requires : goal.evaluate_side-evaluate_one-requires
evaluate_side-evaluate_one-requires t c =
    (omega arith, (c.requires.room, c.requires.answers))

pub evaluate_item-evaluate-requires : goal.evaluate_item-evaluate-requires
evaluate_item-evaluate-requires t c =
    (omega arith, (c.requires.room, c.requires.answers))

pub evaluate_item-evaluate_two-requires : goal.evaluate_item-evaluate_two-requires
evaluate_item-evaluate_two-requires t c =
    (omega arith, (c.requires.room, c.requires.answers))

pub evaluate_one-evaluate-requires : goal.evaluate_one-evaluate-requires
evaluate_one-evaluate-requires t c =
    (omega arith, (c.requires.room, c.requires.answers))

pub evaluate_two-evaluate-requires : goal.evaluate_two-evaluate-requires
evaluate_two-evaluate-requires t c =
    (omega arith, (c.requires.room, c.requires.answers))

pub evaluate_side-evaluate_one-requires-in-Right : goal.evaluate_side-evaluate_one-requires-in-Right
evaluate_side-evaluate_one-requires-in-Right t c =
    (omega arith, (c.requires.room, c.requires.answers))

pub evaluate_if-evaluate-requires-else-branch : goal.evaluate_if-evaluate-requires-else-branch
evaluate_if-evaluate-requires-else-branch t c =
    (omega arith, (c.requires.room, c.requires.answers))

pub evaluate_both-evaluate-requires-2 : goal.evaluate_both-evaluate-requires-2
evaluate_both-evaluate-requires-2 t c =
    (omega arith, (omega arith, c.requires.answers))

pub evaluate_in_turn-evaluate-requires-2 : goal.evaluate_in_turn-evaluate-requires-2
evaluate_in_turn-evaluate-requires-2 t c =
    (omega arith, (omega arith, c.requires.answers))

pub evaluate_let-evaluate_after-requires : goal.evaluate_let-evaluate_after-requires
evaluate_let-evaluate_after-requires t c =
    (omega arith, (omega arith, c.requires.answers))

pub evaluate_call-evaluate_body-requires : goal.evaluate_call-evaluate_body-requires
evaluate_call-evaluate_body-requires t c =
    (omega arith, (omega arith, c.requires.answers))

pub evaluate_with_head-evaluate_let-requires : goal.evaluate_with_head-evaluate_let-requires
evaluate_with_head-evaluate_let-requires t c =
    (omega arith, (c.requires.room, (c.requires.answers, c.in_ok-head.ensures.counted)))

pub evaluate_bound-evaluate_one-requires : goal.evaluate_bound-evaluate_one-requires
evaluate_bound-evaluate_one-requires t c =
    let there : c.args.e.now.form.value ≡ c.deref.result.now = sym c.deref.ensures in
    let after = ap weight_after (ap (expression_form_of c.args.e.now.at) (there ∙ c.in-Let.is)) in
    (omega (arith, after), (c.requires.room, c.requires.answers))

pub evaluate_bound-evaluate_two-requires : goal.evaluate_bound-evaluate_two-requires
evaluate_bound-evaluate_two-requires t c =
    let there : c.args.e.now.form.value ≡ c.deref.result.now = sym c.deref.ensures in
    let after = ap weight_after (ap (expression_form_of c.args.e.now.at) (there ∙ c.in-LetPar.is)) in
    (omega (arith, after), (c.requires.room, c.requires.answers))

pub evaluate_bound-evaluate_parts-requires : goal.evaluate_bound-evaluate_parts-requires
evaluate_bound-evaluate_parts-requires t c =
    let there : c.args.e.now.form.value ≡ c.deref.result.now = sym c.deref.ensures in
    let after = ap weight_after (ap (expression_form_of c.args.e.now.at) (there ∙ c.in-LetCat.is)) in
    (omega (arith, after), (c.requires.room, c.requires.answers))

pub evaluate_bound-evaluate_side-requires : goal.evaluate_bound-evaluate_side-requires
evaluate_bound-evaluate_side-requires t c =
    let there : c.args.e.now.form.value ≡ c.deref.result.now = sym c.deref.ensures in
    let after = ap weight_after (ap (expression_form_of c.args.e.now.at) (there ∙ c.in-CaseSum.is)) in
    (omega (arith, after), (c.requires.room, c.requires.answers))

pub evaluate_bound-evaluate_item-requires : goal.evaluate_bound-evaluate_item-requires
evaluate_bound-evaluate_item-requires t c =
    let there : c.args.e.now.form.value ≡ c.deref.result.now = sym c.deref.ensures in
    let after = ap weight_after (ap (expression_form_of c.args.e.now.at) (there ∙ c.in-CaseStar.is)) in
    (omega (arith, after), (c.requires.room, c.requires.answers))

pub evaluate_head-evaluate_at_type-requires : goal.evaluate_head-evaluate_at_type-requires
evaluate_head-evaluate_at_type-requires t c =
    let there : c.args.h.now.form.value ≡ c.deref.result.now = sym c.deref.ensures in
    let heavier = ap weight_of_head (ap (head_form_of c.args.h.now.at) (there ∙ c.in-Asc.is)) in
    (omega (arith, heavier), (c.requires.room, c.requires.answers))

pub evaluate_call-evaluate_arguments-requires : goal.evaluate_call-evaluate_arguments-requires
evaluate_call-evaluate_arguments-requires t c =
    let none = ap (λ (z : Runs). z.calls) c.no_arguments-start.ensures in
    (omega arith, (c.requires.room, (c.requires.answers, omega (arith, none))))

pub evaluate_both-par_run-requires : goal.evaluate_both-par_run-requires
evaluate_both-par_run-requires t c =
    omega (arith, c.in_ok-first.ensures.counted, c.in_ok-second.ensures.counted)

pub evaluate_in_turn-cat_run-requires : goal.evaluate_in_turn-cat_run-requires
evaluate_in_turn-cat_run-requires t c =
    omega (arith, c.in_ok-first.ensures.counted, c.in_ok-second.ensures.counted)

pub evaluate_call-call_run-requires : goal.evaluate_call-call_run-requires
evaluate_call-call_run-requires t c =
    omega (arith, c.in_ok-arguments.ensures.counted, c.in_ok-body.ensures.counted)

pub evaluate_let-let_run-requires : goal.evaluate_let-let_run-requires
evaluate_let-let_run-requires t c =
    omega (arith, c.in_ok-after.ensures.counted)

pub evaluate_arguments-one_more-requires : goal.evaluate_arguments-one_more-requires
evaluate_arguments-one_more-requires t c =
    omega (arith, c.in_ok-argument.ensures.counted)

pub evaluate_body-answer_to-requires : goal.evaluate_body-answer_to-requires
evaluate_body-answer_to-requires t c =
    record { room = c.requires.room; answers = c.requires.answers }

pub evaluate_body-one_call-requires : goal.evaluate_body-one_call-requires
evaluate_body-one_call-requires t c =
    let none = ap (λ (z : Run). z.calls) c.quiet.ensures in
    omega (arith, none)

pub evaluate_body-one_call-requires-2 : goal.evaluate_body-one_call-requires-2
evaluate_body-one_call-requires-2 t c =
    omega (arith, c.in_ok-run.ensures.counted)

pub evaluate-returns-in-Eps : goal.evaluate-returns-in-Eps
evaluate-returns-in-Eps t c =
    let there : c.args.e.now.form.value ≡ c.deref.result.now = sym c.deref.ensures in
    let none = ap (λ (z : Run). z.calls) c.quiet.ensures in
    record { run = rw (there, c.in-Eps.is) c.quiet.ensures; counted = omega (arith, none); spent = tt }

pub evaluate-returns-in-Unit : goal.evaluate-returns-in-Unit
evaluate-returns-in-Unit t c =
    let there : c.args.e.now.form.value ≡ c.deref.result.now = sym c.deref.ensures in
    let none = ap (λ (z : Run). z.calls) c.quiet-in-Unit.ensures in
    record { run = rw (there, c.in-Unit.is) c.quiet-in-Unit.ensures; counted = omega (arith, none); spent = tt }

pub evaluate-returns-in-Nil : goal.evaluate-returns-in-Nil
evaluate-returns-in-Nil t c =
    let there : c.args.e.now.form.value ≡ c.deref.result.now = sym c.deref.ensures in
    let none = ap (λ (z : Run). z.calls) c.nil_run.ensures in
    record { run = rw (there, c.in-Nil.is) c.nil_run.ensures; counted = omega (arith, none); spent = tt }

pub evaluate-returns-in-Par-clause-run : goal.evaluate-returns-in-Par-clause-run
evaluate-returns-in-Par-clause-run t c =
    let there : c.args.e.now.form.value ≡ c.deref.result.now = sym c.deref.ensures in
    rw (there, c.in-Par.is) (rw (c.par_types.ensures.left, c.par_types.ensures.right) at c.evaluate_both.ensures.run)

pub evaluate-returns-in-Par-clause-counted : goal.evaluate-returns-in-Par-clause-counted
evaluate-returns-in-Par-clause-counted t c =
    c.evaluate_both.ensures.counted

pub evaluate-returns-in-Par-clause-spent : goal.evaluate-returns-in-Par-clause-spent
evaluate-returns-in-Par-clause-spent t c =
    let there : c.args.e.now.form.value ≡ c.deref.result.now = sym c.deref.ensures in
    rw (there, c.in-Par.is) (rw (c.par_types.ensures.left, c.par_types.ensures.right) at c.evaluate_both.ensures.spent)

pub evaluate-returns-in-Cat-clause-run : goal.evaluate-returns-in-Cat-clause-run
evaluate-returns-in-Cat-clause-run t c =
    let there : c.args.e.now.form.value ≡ c.deref.result.now = sym c.deref.ensures in
    rw (there, c.in-Cat.is) (rw (c.cat_types.ensures.first, c.cat_types.ensures.second) at c.evaluate_in_turn.ensures.run)

pub evaluate-returns-in-Cat-clause-counted : goal.evaluate-returns-in-Cat-clause-counted
evaluate-returns-in-Cat-clause-counted t c =
    c.evaluate_in_turn.ensures.counted

pub evaluate-returns-in-Cat-clause-spent : goal.evaluate-returns-in-Cat-clause-spent
evaluate-returns-in-Cat-clause-spent t c =
    let there : c.args.e.now.form.value ≡ c.deref.result.now = sym c.deref.ensures in
    rw (there, c.in-Cat.is) (rw (c.cat_types.ensures.first, c.cat_types.ensures.second) at c.evaluate_in_turn.ensures.spent)

sooner : (n a b : ℕ) → n < a → n < a + b
sooner n a b h = omega (arith, h)

later : (n a b : ℕ) → a ≤ n → n - a < b → n < a + b
later n a b h k = omega (arith, h, k)

together : (n a b r : ℕ) → r ≡ a + b → a ≤ n → b ≤ n - a → r ≤ n
together n a b r e h k = omega (arith, e, h, k)

pub evaluate_both-returns : goal.evaluate_both-returns
evaluate_both-returns t c =
    let few = together c.args.left _ _ _ (ap (λ (z : Run). z.calls) c.in_ok-par_run.ensures) c.in_ok-first.ensures.counted c.in_ok-second.ensures.counted in
    record { run = c.in_ok-par_run.ensures ∙ ap₂ (λ (p q : Run). par_run p q) c.in_ok-first.ensures.run c.in_ok-second.ensures.run; counted = few; spent = tt }

pub evaluate_both-returns-in_err-first : goal.evaluate_both-returns-in_err-first
evaluate_both-returns-in_err-first t c =
    let exit = err_from_is_err_and c.from_residual.result c.from_residual.ensures.1 in
    rw (exit.1, exit.2) (record { run = tt; counted = tt; spent = λ b q m. sooner _ _ _ (c.in_err-first.ensures.spent b q m) })

pub evaluate_both-returns-in_err-second : goal.evaluate_both-returns-in_err-second
evaluate_both-returns-in_err-second t c =
    let exit = err_from_is_err_and c.from_residual-in_err-second.result c.from_residual-in_err-second.ensures.1 in
    rw (exit.1, exit.2) (record { run = tt; counted = tt; spent = λ b q m. spent_after (run_of c.in_ok-first.first) _ _ c.args.left c.in_ok-first.ensures.run c.in_ok-first.ensures.counted (c.in_err-second.ensures.spent b q m) })

pub evaluate_both-returns-in_err-par_run : goal.evaluate_both-returns-in_err-par_run
evaluate_both-returns-in_err-par_run t c =
    let exit = err_from_is_err_and c.from_residual-in_err-par_run.result c.from_residual-in_err-par_run.ensures.1 in
    rw (exit.1, exit.2) (record { run = tt; counted = tt; spent = λ b q m. cc })

pub evaluate_in_turn-returns-then-not-maximal : goal.evaluate_in_turn-returns-then-not-maximal
evaluate_in_turn-returns-then-not-maximal t c =
    let x = run_at c.args.place.now c.args.scope.now (expression_of c.args.a.now) (type_of c.args.s.now) in
    let y = run_at c.args.place.now c.args.scope.now (expression_of c.args.b.now) (type_of c.args.t.now) in
    let one = run_of c.in_ok-first.first in
    let waits : is_maximal one.out ≡ false = sym c.maximal.ensures ∙ c.if-not-maximal.true in
    let few = subst (λ (n : ℕ). n ≤ c.args.left) (sym (ap (λ (z : Run). z.calls) c.in_ok-first_run.ensures)) c.in_ok-first.ensures.counted in
    record { run = c.in_ok-first_run.ensures ∙ cat_run_first one x y c.in_ok-first.ensures.run waits; counted = few; spent = tt }

pub evaluate_in_turn-returns : goal.evaluate_in_turn-returns
evaluate_in_turn-returns t c =
    let x = run_at c.args.place.now c.args.scope.now (expression_of c.args.a.now) (type_of c.args.s.now) in
    let y = run_at c.args.place.now c.args.scope.now (expression_of c.args.b.now) (type_of c.args.t.now) in
    let one = run_of c.in_ok-first.first in
    let goes : is_maximal one.out ≡ true = sym c.maximal.ensures ∙ c.if-not-maximal.false in
    let few = together c.args.left _ _ _ (ap (λ (z : Run). z.calls) c.in_ok-cat_run.ensures) c.in_ok-first.ensures.counted c.in_ok-second.ensures.counted in
    record { run = c.in_ok-cat_run.ensures ∙ cat_run_both one (run_of c.in_ok-second.second) x y c.in_ok-first.ensures.run c.in_ok-second.ensures.run goes; counted = few; spent = tt }

pub evaluate_in_turn-returns-in_err-first : goal.evaluate_in_turn-returns-in_err-first
evaluate_in_turn-returns-in_err-first t c =
    let x = run_at c.args.place.now c.args.scope.now (expression_of c.args.a.now) (type_of c.args.s.now) in
    let y = run_at c.args.place.now c.args.scope.now (expression_of c.args.b.now) (type_of c.args.t.now) in
    let exit = err_from_is_err_and c.from_residual.result c.from_residual.ensures.1 in
    rw (exit.1, exit.2) (record { run = tt; counted = tt; spent = λ b q m. cat_spent_first x y c.args.left (c.in_err-first.ensures.spent b q m) })

pub evaluate_in_turn-returns-in_err-first_run : goal.evaluate_in_turn-returns-in_err-first_run
evaluate_in_turn-returns-in_err-first_run t c =
    let exit = err_from_is_err_and c.from_residual-in_err-first_run.result c.from_residual-in_err-first_run.ensures.1 in
    rw (exit.1, exit.2) (record { run = tt; counted = tt; spent = λ b q m. cc })

pub evaluate_in_turn-returns-in_err-second : goal.evaluate_in_turn-returns-in_err-second
evaluate_in_turn-returns-in_err-second t c =
    let x = run_at c.args.place.now c.args.scope.now (expression_of c.args.a.now) (type_of c.args.s.now) in
    let y = run_at c.args.place.now c.args.scope.now (expression_of c.args.b.now) (type_of c.args.t.now) in
    let one = run_of c.in_ok-first.first in
    let goes : is_maximal one.out ≡ true = sym c.maximal.ensures ∙ c.if-not-maximal.false in
    let exit = err_from_is_err_and c.from_residual-in_err-second.result c.from_residual-in_err-second.ensures.1 in
    rw (exit.1, exit.2) (record { run = tt; counted = tt; spent = λ b q m. cat_spent_second one x y c.args.left c.in_ok-first.ensures.run goes c.in_ok-first.ensures.counted (c.in_err-second.ensures.spent b q m) })

pub evaluate_in_turn-returns-in_err-cat_run : goal.evaluate_in_turn-returns-in_err-cat_run
evaluate_in_turn-returns-in_err-cat_run t c =
    let exit = err_from_is_err_and c.from_residual-in_err-cat_run.result c.from_residual-in_err-cat_run.ensures.1 in
    rw (exit.1, exit.2) (record { run = tt; counted = tt; spent = λ b q m. cc })

pub evaluate_let-returns : goal.evaluate_let-returns
evaluate_let-returns t c =
    let few = together c.args.left _ _ _ (ap (λ (z : Run). z.calls) c.in_ok-let_run.ensures) c.requires.counted c.in_ok-after.ensures.counted in
    record { run = c.in_ok-let_run.ensures ∙ ap₂ (λ (n : Bool) (z : Run). let_run n (run_of c.args.head.now) z) c.is_name_head.ensures c.in_ok-after.ensures.run; counted = few; spent = tt }

pub evaluate_let-returns-in_err-after : goal.evaluate_let-returns-in_err-after
evaluate_let-returns-in_err-after t c =
    let exit = err_from_is_err_and c.from_residual.result c.from_residual.ensures.1 in
    rw (exit.1, exit.2) (record { run = tt; counted = tt; spent = λ b q m. later _ _ _ c.requires.counted (c.in_err-after.ensures.spent b q m) })

pub evaluate_let-returns-in_err-let_run : goal.evaluate_let-returns-in_err-let_run
evaluate_let-returns-in_err-let_run t c =
    let exit = err_from_is_err_and c.from_residual-in_err-let_run.result c.from_residual-in_err-let_run.ensures.1 in
    rw (exit.1, exit.2) (record { run = tt; counted = tt; spent = λ b q m. cc })

pub evaluate_call-returns-in_err-values : goal.evaluate_call-returns-in_err-values
evaluate_call-returns-in_err-values t c =
    let exit = err_from_is_err_and c.from_residual.result c.from_residual.ensures.1 in
    rw (exit.1, exit.2) (record { run = tt; counted = tt; spent = λ at b q m. cc })

pub evaluate_call-returns-in_err-params : goal.evaluate_call-returns-in_err-params
evaluate_call-returns-in_err-params t c =
    let exit = err_from_is_err_and c.from_residual-in_err-params.result c.from_residual-in_err-params.ensures.1 in
    rw (exit.1, exit.2) (record { run = tt; counted = tt; spent = λ at b q m. cc })

pub evaluate_call-returns-in_err-call_run : goal.evaluate_call-returns-in_err-call_run
evaluate_call-returns-in_err-call_run t c =
    let exit = err_from_is_err_and c.from_residual-in_err-call_run.result c.from_residual-in_err-call_run.ensures.1 in
    rw (exit.1, exit.2) (record { run = tt; counted = tt; spent = λ at b q m. cc })

pub evaluate_arguments-returns-in_err-so_far : goal.evaluate_arguments-returns-in_err-so_far
evaluate_arguments-returns-in_err-so_far t c =
    let exit = err_from_is_err_and c.from_residual-in_err-so_far.result c.from_residual-in_err-so_far.ensures.1 in
    rw (exit.1, exit.2) (record { runs = tt; counted = tt; spent = λ b q m. cc })

pub evaluate_body-returns-in_err-params : goal.evaluate_body-returns-in_err-params
evaluate_body-returns-in_err-params t c =
    let exit = err_from_is_err_and c.from_residual.result c.from_residual.ensures.1 in
    rw (exit.1, exit.2) (record { run = tt; counted = tt; spent = λ b q m. cc })

pub evaluate_body-returns-in_err-past : goal.evaluate_body-returns-in_err-past
evaluate_body-returns-in_err-past t c =
    let exit = err_from_is_err_and c.from_residual-in_err-past.result c.from_residual-in_err-past.ensures.1 in
    rw (exit.1, exit.2) (record { run = tt; counted = tt; spent = λ b q m. cc })
