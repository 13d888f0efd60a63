-- Historical expressions by their forms.
use Rattle.std.proofs.Common.{[], ◌∷◌, ◌++◌, refl, append_assoc, drop, rules}
use Rattle.std.proofs.lemmas.Result.{err_from_is_err_and}
use Rattle.kept_state.specs.KeptForm.{op_kind, expr_kind, any, form}
use Rattle.kept_state.specs.KeptBytes.{expr_bytes}
use Rattle.kept_state.specs.KeptSizes.{FitsExpr}
use Rattle.hist_value.specs.HistExpr.{expr_of}
use Rattle.delta_keep.proofs.Pieces.{then, as_written, stops_first, stops_second, in_form, plain, stops_in_form, stops_before, begins, boxed_read, second_of, flat_5, flat_2_3}
use Rattle.delta_keep.proofs.Placing.{stops_at}
use Rattle.delta_keep.proofs.read_exprs.+read_exprs.Goals as goal

pub two_exprs-returns-in_err-first : goal.two_exprs-returns-in_err-first
two_exprs-returns-in_err-first t c =
    let exit = err_from_is_err_and c.from_residual.result c.from_residual.ensures.1 in
    record { reads = rw (exit.1, exit.2) (stops_first (form expr_kind ∷ []) ((form expr_kind ∷ [])) (drop c.args.start c.args.bytes.now) c.in_err-first.field-0.0 c.in_err-first.ensures.reads) }

pub two_exprs-returns-in_err-second : goal.two_exprs-returns-in_err-second
two_exprs-returns-in_err-second t c =
    let exit = err_from_is_err_and c.from_residual-in_err-second.result c.from_residual-in_err-second.ensures.1 in
    record { reads = rw (exit.1, exit.2) (stops_second ((form expr_kind ∷ [])) c.in_err-second.field-0.0 c.in_ok-first.ensures.reads (c.in_err-second.ensures.reads)) }

pub two_exprs-returns : goal.two_exprs-returns
two_exprs-returns t c = record { reads = (then c.in_ok-first.ensures.reads c.in_ok-second.ensures.reads) }

pub read_expr-returns-in_err-form : goal.read_expr-returns-in_err-form
read_expr-returns-in_err-form t c =
    let exit = err_from_is_err_and c.from_residual.result c.from_residual.ensures.1 in
    record { reads = rw (exit.1, exit.2) (stops_before expr_kind (drop c.args.start c.args.bytes.now) c.in_err-form.field-0.0 c.in_err-form.ensures.none) }

pub read_expr-returns-in-0 : goal.read_expr-returns-in-0
read_expr-returns-in-0 t c = record { reads = rw (begins 0 c.in_ok-form.ensures.form c.in-0.is) (c.read_variable.ensures) }

pub read_expr-returns-in-1 : goal.read_expr-returns-in-1
read_expr-returns-in-1 t c = record { reads = rw (begins 1 c.in_ok-form.ensures.form c.in-1.is) (c.read_literal.ensures) }

pub read_expr-returns-in-4 : goal.read_expr-returns-in-4
read_expr-returns-in-4 t c = record { reads = rw (begins 4 c.in_ok-form.ensures.form c.in-4.is) (c.two_done.ensures (drop c.in_ok-form.next c.args.bytes.now) (λ n. drop n c.args.bytes.now) refl c.two_exprs.ensures.reads) }

pub read_expr-returns-in-5 : goal.read_expr-returns-in-5
read_expr-returns-in-5 t c = record { reads = rw (begins 5 c.in_ok-form.ensures.form c.in-5.is) (c.one_done.ensures (drop c.in_ok-form.next c.args.bytes.now) (λ n. drop n c.args.bytes.now) refl c.read_expr.ensures.reads) }

pub read_expr-returns-in-6 : goal.read_expr-returns-in-6
read_expr-returns-in-6 t c = record { reads = rw (begins 6 c.in_ok-form.ensures.form c.in-6.is) (c.one_done-in-6.ensures (drop c.in_ok-form.next c.args.bytes.now) (λ n. drop n c.args.bytes.now) refl c.read_expr-in-6.ensures.reads) }

pub read_expr-returns-in-7 : goal.read_expr-returns-in-7
read_expr-returns-in-7 t c = record { reads = rw (begins 7 c.in_ok-form.ensures.form c.in-7.is) (c.one_done-in-7.ensures (drop c.in_ok-form.next c.args.bytes.now) (λ n. drop n c.args.bytes.now) refl c.read_expr-in-7.ensures.reads) }

pub read_expr-returns-in-8 : goal.read_expr-returns-in-8
read_expr-returns-in-8 t c = record { reads = rw (begins 8 c.in_ok-form.ensures.form c.in-8.is) (c.one_done-in-8.ensures (drop c.in_ok-form.next c.args.bytes.now) (λ n. drop n c.args.bytes.now) refl c.read_expr-in-8.ensures.reads) }

pub read_expr-returns-in-11 : goal.read_expr-returns-in-11
read_expr-returns-in-11 t c = record { reads = rw (begins 11 c.in_ok-form.ensures.form c.in-11.is) (c.two_done-in-11.ensures (drop c.in_ok-form.next c.args.bytes.now) (λ n. drop n c.args.bytes.now) refl c.two_exprs-in-11.ensures.reads) }

pub read_expr-returns-in-2 : goal.read_expr-returns-in-2
read_expr-returns-in-2 t c = record { reads = rw (begins 2 c.in_ok-form.ensures.form c.in-2.is) (boxed_read (λ x. x.0.value) (λ x. drop x.1 c.args.bytes.now) (λ m. expr_bytes (expr_of m)) (λ m. FitsExpr (expr_of m)) c.boxed.result (c.boxed.ensures.boxes (λ n. drop n c.args.bytes.now)) (plain expr_kind 2 (drop c.in_ok-form.next c.args.bytes.now) refl tt)) }

pub read_expr-returns-in-3 : goal.read_expr-returns-in-3
read_expr-returns-in-3 t c = record { reads = rw (begins 3 c.in_ok-form.ensures.form c.in-3.is) (c.read_bin.ensures.reads) }

pub read_expr-returns-in-9 : goal.read_expr-returns-in-9
read_expr-returns-in-9 t c = record { reads = rw (begins 9 c.in_ok-form.ensures.form c.in-9.is) (c.read_choice.ensures.reads) }

pub read_expr-returns-in-10 : goal.read_expr-returns-in-10
read_expr-returns-in-10 t c = record { reads = rw (begins 10 c.in_ok-form.ensures.form c.in-10.is) (boxed_read (λ x. x.0.value) (λ x. drop x.1 c.args.bytes.now) (λ m. expr_bytes (expr_of m)) (λ m. FitsExpr (expr_of m)) c.boxed-in-10.result (c.boxed-in-10.ensures.boxes (λ n. drop n c.args.bytes.now)) (plain expr_kind 10 (drop c.in_ok-form.next c.args.bytes.now) refl tt)) }

pub read_expr-returns-in-12 : goal.read_expr-returns-in-12
read_expr-returns-in-12 t c = record { reads = rw (begins 12 c.in_ok-form.ensures.form c.in-12.is) (c.read_fold.ensures.reads) }

pub read_bin-returns-in_err-op : goal.read_bin-returns-in_err-op
read_bin-returns-in_err-op t c =
    let exit = err_from_is_err_and c.from_residual.result c.from_residual.ensures.1 in
    record { reads = rw (exit.1, exit.2) (stops_in_form expr_kind 3 ((form op_kind ∷ []) ++ (form expr_kind ∷ form expr_kind ∷ [])) (drop c.args.start c.args.bytes.now) c.in_err-op.field-0.0 refl (stops_first (form op_kind ∷ []) ((form expr_kind ∷ form expr_kind ∷ [])) (drop c.args.start c.args.bytes.now) c.in_err-op.field-0.0 c.in_err-op.ensures.reads)) }

pub read_bin-returns-in_err-a : goal.read_bin-returns-in_err-a
read_bin-returns-in_err-a t c =
    let exit = err_from_is_err_and c.from_residual-in_err-a.result c.from_residual-in_err-a.ensures.1 in
    record { reads = rw (exit.1, exit.2) (stops_in_form expr_kind 3 ((form op_kind ∷ []) ++ (form expr_kind ∷ form expr_kind ∷ [])) (drop c.args.start c.args.bytes.now) c.in_err-a.field-0.0 refl (stops_second ((form expr_kind ∷ form expr_kind ∷ [])) c.in_err-a.field-0.0 c.in_ok-op.ensures.reads (c.in_err-a.ensures.reads))) }

pub read_bin-returns : goal.read_bin-returns
read_bin-returns t c = record { reads = boxed_read (λ x. x.0.value) (λ x. drop x.1 c.args.bytes.now) (λ m. expr_bytes (expr_of m)) (λ m. FitsExpr (expr_of m)) c.boxed.result (c.boxed.ensures.boxes (λ n. drop n c.args.bytes.now)) (in_form expr_kind 3 refl (as_written refl second_of (then c.in_ok-op.ensures.reads c.in_ok-a.ensures.reads))) }

pub read_choice-returns-in_err-a : goal.read_choice-returns-in_err-a
read_choice-returns-in_err-a t c =
    let exit = err_from_is_err_and c.from_residual.result c.from_residual.ensures.1 in
    record { reads = rw (exit.1, exit.2) (stops_in_form expr_kind 9 ((form expr_kind ∷ []) ++ (any 4 ∷ []) ++ (form expr_kind ∷ []) ++ (any 4 ∷ []) ++ (form expr_kind ∷ [])) (drop c.args.start c.args.bytes.now) c.in_err-a.field-0.0 refl (stops_first (form expr_kind ∷ []) ((any 4 ∷ []) ++ (form expr_kind ∷ []) ++ (any 4 ∷ []) ++ (form expr_kind ∷ [])) (drop c.args.start c.args.bytes.now) c.in_err-a.field-0.0 c.in_err-a.ensures.reads)) }

pub read_choice-returns-in_err-x : goal.read_choice-returns-in_err-x
read_choice-returns-in_err-x t c =
    let exit = err_from_is_err_and c.from_residual-in_err-x.result c.from_residual-in_err-x.ensures.1 in
    record { reads = rw (exit.1, exit.2) (stops_in_form expr_kind 9 ((form expr_kind ∷ []) ++ (any 4 ∷ []) ++ (form expr_kind ∷ []) ++ (any 4 ∷ []) ++ (form expr_kind ∷ [])) (drop c.args.start c.args.bytes.now) c.in_err-x.field-0.0 refl (stops_second ((any 4 ∷ []) ++ (form expr_kind ∷ []) ++ (any 4 ∷ []) ++ (form expr_kind ∷ [])) c.in_err-x.field-0.0 c.in_ok-a.ensures.reads (stops_first (any 4 ∷ []) ((form expr_kind ∷ []) ++ (any 4 ∷ []) ++ (form expr_kind ∷ [])) (drop c.in_ok-a.next c.args.bytes.now) c.in_err-x.field-0.0 c.in_err-x.ensures.reads))) }

pub read_choice-returns-in_err-b : goal.read_choice-returns-in_err-b
read_choice-returns-in_err-b t c =
    let exit = err_from_is_err_and c.from_residual-in_err-b.result c.from_residual-in_err-b.ensures.1 in
    record { reads = rw (exit.1, exit.2) (stops_in_form expr_kind 9 ((form expr_kind ∷ []) ++ (any 4 ∷ []) ++ (form expr_kind ∷ []) ++ (any 4 ∷ []) ++ (form expr_kind ∷ [])) (drop c.args.start c.args.bytes.now) c.in_err-b.field-0.0 refl (stops_second ((any 4 ∷ []) ++ (form expr_kind ∷ []) ++ (any 4 ∷ []) ++ (form expr_kind ∷ [])) c.in_err-b.field-0.0 c.in_ok-a.ensures.reads (stops_second ((form expr_kind ∷ []) ++ (any 4 ∷ []) ++ (form expr_kind ∷ [])) c.in_err-b.field-0.0 c.in_ok-x.ensures.reads (stops_first (form expr_kind ∷ []) ((any 4 ∷ []) ++ (form expr_kind ∷ [])) (drop c.in_ok-x.next c.args.bytes.now) c.in_err-b.field-0.0 c.in_err-b.ensures.reads)))) }

pub read_choice-returns-in_err-y : goal.read_choice-returns-in_err-y
read_choice-returns-in_err-y t c =
    let exit = err_from_is_err_and c.from_residual-in_err-y.result c.from_residual-in_err-y.ensures.1 in
    record { reads = rw (exit.1, exit.2) (stops_in_form expr_kind 9 ((form expr_kind ∷ []) ++ (any 4 ∷ []) ++ (form expr_kind ∷ []) ++ (any 4 ∷ []) ++ (form expr_kind ∷ [])) (drop c.args.start c.args.bytes.now) c.in_err-y.field-0.0 refl (stops_second ((any 4 ∷ []) ++ (form expr_kind ∷ []) ++ (any 4 ∷ []) ++ (form expr_kind ∷ [])) c.in_err-y.field-0.0 c.in_ok-a.ensures.reads (stops_second ((form expr_kind ∷ []) ++ (any 4 ∷ []) ++ (form expr_kind ∷ [])) c.in_err-y.field-0.0 c.in_ok-x.ensures.reads (stops_second ((any 4 ∷ []) ++ (form expr_kind ∷ [])) c.in_err-y.field-0.0 c.in_ok-b.ensures.reads (stops_first (any 4 ∷ []) ((form expr_kind ∷ [])) (drop c.in_ok-b.next c.args.bytes.now) c.in_err-y.field-0.0 c.in_err-y.ensures.reads))))) }

pub read_choice-returns-in_err-c : goal.read_choice-returns-in_err-c
read_choice-returns-in_err-c t c =
    let exit = err_from_is_err_and c.from_residual-in_err-c.result c.from_residual-in_err-c.ensures.1 in
    record { reads = rw (exit.1, exit.2) (stops_in_form expr_kind 9 ((form expr_kind ∷ []) ++ (any 4 ∷ []) ++ (form expr_kind ∷ []) ++ (any 4 ∷ []) ++ (form expr_kind ∷ [])) (drop c.args.start c.args.bytes.now) c.in_err-c.field-0.0 refl (stops_second ((any 4 ∷ []) ++ (form expr_kind ∷ []) ++ (any 4 ∷ []) ++ (form expr_kind ∷ [])) c.in_err-c.field-0.0 c.in_ok-a.ensures.reads (stops_second ((form expr_kind ∷ []) ++ (any 4 ∷ []) ++ (form expr_kind ∷ [])) c.in_err-c.field-0.0 c.in_ok-x.ensures.reads (stops_second ((any 4 ∷ []) ++ (form expr_kind ∷ [])) c.in_err-c.field-0.0 c.in_ok-b.ensures.reads (stops_second ((form expr_kind ∷ [])) c.in_err-c.field-0.0 c.in_ok-y.ensures.reads (c.in_err-c.ensures.reads)))))) }

pub read_choice-returns : goal.read_choice-returns
read_choice-returns t c = record { reads = boxed_read (λ x. x.0.value) (λ x. drop x.1 c.args.bytes.now) (λ m. expr_bytes (expr_of m)) (λ m. FitsExpr (expr_of m)) c.boxed.result (c.boxed.ensures.boxes (λ n. drop n c.args.bytes.now)) (in_form expr_kind 9 refl (as_written refl flat_5 (then c.in_ok-a.ensures.reads (then c.in_ok-x.ensures.reads (then c.in_ok-b.ensures.reads (then c.in_ok-y.ensures.reads c.in_ok-c.ensures.reads)))))) }

pub read_fold-returns-in_err-a : goal.read_fold-returns-in_err-a
read_fold-returns-in_err-a t c =
    let exit = err_from_is_err_and c.from_residual.result c.from_residual.ensures.1 in
    record { reads = rw (exit.1, exit.2) (stops_in_form expr_kind 12 ((form expr_kind ∷ form expr_kind ∷ []) ++ (any 4 ∷ []) ++ (any 4 ∷ []) ++ (form expr_kind ∷ [])) (drop c.args.start c.args.bytes.now) c.in_err-a.field-0.0 refl (stops_first (form expr_kind ∷ form expr_kind ∷ []) ((any 4 ∷ []) ++ (any 4 ∷ []) ++ (form expr_kind ∷ [])) (drop c.args.start c.args.bytes.now) c.in_err-a.field-0.0 c.in_err-a.ensures.reads)) }

pub read_fold-returns-in_err-x : goal.read_fold-returns-in_err-x
read_fold-returns-in_err-x t c =
    let exit = err_from_is_err_and c.from_residual-in_err-x.result c.from_residual-in_err-x.ensures.1 in
    record { reads = rw (exit.1, exit.2) (stops_in_form expr_kind 12 ((form expr_kind ∷ form expr_kind ∷ []) ++ (any 4 ∷ []) ++ (any 4 ∷ []) ++ (form expr_kind ∷ [])) (drop c.args.start c.args.bytes.now) c.in_err-x.field-0.0 refl (stops_second ((any 4 ∷ []) ++ (any 4 ∷ []) ++ (form expr_kind ∷ [])) c.in_err-x.field-0.0 c.in_ok-a.ensures.reads (stops_first (any 4 ∷ []) ((any 4 ∷ []) ++ (form expr_kind ∷ [])) (drop c.in_ok-a.next c.args.bytes.now) c.in_err-x.field-0.0 c.in_err-x.ensures.reads))) }

pub read_fold-returns-in_err-y : goal.read_fold-returns-in_err-y
read_fold-returns-in_err-y t c =
    let exit = err_from_is_err_and c.from_residual-in_err-y.result c.from_residual-in_err-y.ensures.1 in
    record { reads = rw (exit.1, exit.2) (stops_in_form expr_kind 12 ((form expr_kind ∷ form expr_kind ∷ []) ++ (any 4 ∷ []) ++ (any 4 ∷ []) ++ (form expr_kind ∷ [])) (drop c.args.start c.args.bytes.now) c.in_err-y.field-0.0 refl (stops_second ((any 4 ∷ []) ++ (any 4 ∷ []) ++ (form expr_kind ∷ [])) c.in_err-y.field-0.0 c.in_ok-a.ensures.reads (stops_second ((any 4 ∷ []) ++ (form expr_kind ∷ [])) c.in_err-y.field-0.0 c.in_ok-x.ensures.reads (stops_first (any 4 ∷ []) ((form expr_kind ∷ [])) (drop c.in_ok-x.next c.args.bytes.now) c.in_err-y.field-0.0 c.in_err-y.ensures.reads)))) }

pub read_fold-returns-in_err-b : goal.read_fold-returns-in_err-b
read_fold-returns-in_err-b t c =
    let exit = err_from_is_err_and c.from_residual-in_err-b.result c.from_residual-in_err-b.ensures.1 in
    record { reads = rw (exit.1, exit.2) (stops_in_form expr_kind 12 ((form expr_kind ∷ form expr_kind ∷ []) ++ (any 4 ∷ []) ++ (any 4 ∷ []) ++ (form expr_kind ∷ [])) (drop c.args.start c.args.bytes.now) c.in_err-b.field-0.0 refl (stops_second ((any 4 ∷ []) ++ (any 4 ∷ []) ++ (form expr_kind ∷ [])) c.in_err-b.field-0.0 c.in_ok-a.ensures.reads (stops_second ((any 4 ∷ []) ++ (form expr_kind ∷ [])) c.in_err-b.field-0.0 c.in_ok-x.ensures.reads (stops_second ((form expr_kind ∷ [])) c.in_err-b.field-0.0 c.in_ok-y.ensures.reads (c.in_err-b.ensures.reads))))) }

pub read_fold-returns : goal.read_fold-returns
read_fold-returns t c = record { reads = boxed_read (λ x. x.0.value) (λ x. drop x.1 c.args.bytes.now) (λ m. expr_bytes (expr_of m)) (λ m. FitsExpr (expr_of m)) c.boxed.result (c.boxed.ensures.boxes (λ n. drop n c.args.bytes.now)) (in_form expr_kind 12 refl (as_written (append_assoc (expr_bytes (expr_of c.in_ok-a.a.value)) (expr_bytes (expr_of c.in_ok-a.s.value)) _) flat_2_3 (then c.in_ok-a.ensures.reads (then c.in_ok-x.ensures.reads (then c.in_ok-y.ensures.reads c.in_ok-b.ensures.reads))))) }

pub read_expr-returns-in_default : goal.read_expr-returns-in_default
read_expr-returns-in_default t c = record { reads = stops_at expr_kind (search rules) c.in_ok-form.ensures.form c.misplaced.ensures }
