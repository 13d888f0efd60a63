-- Nodes by the forms of their terms.
use Rattle.std.proofs.Common.{◌≡◌, [], ◌∷◌, ◌++◌, ap, sym, refl, append_assoc, drop, rules}
use Rattle.std.proofs.lemmas.Result.{err_from_is_err_and}
use Rattle.kept_state.specs.KeptForm.{type_kind, term_kind, expr_item, node_item, any, form, list_part, node_parts}
use Rattle.kept_state.specs.KeptBytes.{short_bytes, type_bytes}
use Rattle.stream_type.specs.StreamType.{type_of}
use Rattle.delta_keep.specs.Written.{written_node}
use Rattle.delta_keep.specs.Reads.{FitsNode}
use Rattle.delta_keep.proofs.Trees.{call_bytes}
use Rattle.delta_keep.proofs.Sizes.{call_fits}
use Rattle.delta_keep.proofs.Pieces.{then, as_written, stops_first, stops_second, in_form, plain, stops_in_form, stops_before, begins, boxed_read, grouped, flat_3, flat_5, in_node, stops_in_node}
use Rattle.std.proofs.Common.{◌<◌, arith}
use Rattle.delta_keep.proofs.ReadLists.{none_read, list_pushed, list_ended, count_stops, list_read_same}
use Rattle.delta_keep.proofs.Placing.{stops_at}
use Rattle.delta_keep.proofs.read_terms.+read_nodes.Goals as goal

pub read_node-returns-in_err-at : goal.read_node-returns-in_err-at
read_node-returns-in_err-at t c =
    let exit = err_from_is_err_and c.from_residual.result c.from_residual.ensures.1 in
    record { reads = rw (exit.1, exit.2) (stops_first (any 4 ∷ []) (form term_kind ∷ []) (drop c.args.start c.args.bytes.now) c.in_err-at.field-0.0 c.in_err-at.ensures.reads) }

pub read_node-returns : goal.read_node-returns
read_node-returns t c = record { reads = rw (c.in_ok-at.ensures.reads.spelled) (c.read_term.ensures.reads) }

pub two_nodes-returns-in_err-first : goal.two_nodes-returns-in_err-first
two_nodes-returns-in_err-first t c =
    let exit = err_from_is_err_and c.from_residual.result c.from_residual.ensures.1 in
    record { reads = rw (exit.1, exit.2) (stops_first node_parts (node_parts) (drop c.args.start c.args.bytes.now) c.in_err-first.field-0.0 c.in_err-first.ensures.reads) }

pub two_nodes-returns-in_err-second : goal.two_nodes-returns-in_err-second
two_nodes-returns-in_err-second t c =
    let exit = err_from_is_err_and c.from_residual-in_err-second.result c.from_residual-in_err-second.ensures.1 in
    record { reads = rw (exit.1, exit.2) (stops_second (node_parts) c.in_err-second.field-0.0 c.in_ok-first.ensures.reads (c.in_err-second.ensures.reads)) }

pub two_nodes-returns : goal.two_nodes-returns
two_nodes-returns t c = record { reads = (then c.in_ok-first.ensures.reads c.in_ok-second.ensures.reads) }

pub read_term-returns-in_err-form : goal.read_term-returns-in_err-form
read_term-returns-in_err-form t c =
    let exit = err_from_is_err_and c.from_residual.result c.from_residual.ensures.1 in
    record { reads = rw (exit.1, exit.2) (stops_in_node c.args.at (drop c.args.start c.args.bytes.now) c.in_err-form.field-0.0 (stops_before term_kind (drop c.args.start c.args.bytes.now) c.in_err-form.field-0.0 c.in_err-form.ensures.none)) }

pub read_term-returns-in-0 : goal.read_term-returns-in-0
read_term-returns-in-0 t c = record { reads = rw (begins 0 c.in_ok-form.ensures.form c.in-0.is) (c.read_variable.ensures) }

pub read_term-returns-in-4 : goal.read_term-returns-in-4
read_term-returns-in-4 t c = record { reads = rw (begins 4 c.in_ok-form.ensures.form c.in-4.is) (c.two_done.ensures (drop c.in_ok-form.next c.args.bytes.now) (λ n. drop n c.args.bytes.now) refl c.two_nodes.ensures.reads) }

pub read_term-returns-in-5 : goal.read_term-returns-in-5
read_term-returns-in-5 t c = record { reads = rw (begins 5 c.in_ok-form.ensures.form c.in-5.is) (c.two_done-in-5.ensures (drop c.in_ok-form.next c.args.bytes.now) (λ n. drop n c.args.bytes.now) refl c.two_nodes-in-5.ensures.reads) }

pub read_term-returns-in-9 : goal.read_term-returns-in-9
read_term-returns-in-9 t c = record { reads = rw (begins 9 c.in_ok-form.ensures.form c.in-9.is) (c.two_done-in-9.ensures (drop c.in_ok-form.next c.args.bytes.now) (λ n. drop n c.args.bytes.now) refl c.two_nodes-in-9.ensures.reads) }

pub read_term-returns-in-6 : goal.read_term-returns-in-6
read_term-returns-in-6 t c = record { reads = rw (begins 6 c.in_ok-form.ensures.form c.in-6.is) (c.one_done.ensures (drop c.in_ok-form.next c.args.bytes.now) (λ n. drop n c.args.bytes.now) refl c.read_node.ensures.reads) }

pub read_term-returns-in-7 : goal.read_term-returns-in-7
read_term-returns-in-7 t c = record { reads = rw (begins 7 c.in_ok-form.ensures.form c.in-7.is) (c.one_done-in-7.ensures (drop c.in_ok-form.next c.args.bytes.now) (λ n. drop n c.args.bytes.now) refl c.read_node-in-7.ensures.reads) }

pub read_term-returns-in-11 : goal.read_term-returns-in-11
read_term-returns-in-11 t c = record { reads = rw (begins 11 c.in_ok-form.ensures.form c.in-11.is) (c.names_done.ensures (drop c.in_ok-form.next c.args.bytes.now) (λ n. drop n c.args.bytes.now) refl c.names_and_node.ensures.reads) }

pub read_term-returns-in-12 : goal.read_term-returns-in-12
read_term-returns-in-12 t c = record { reads = rw (begins 12 c.in_ok-form.ensures.form c.in-12.is) (c.names_done-in-12.ensures (drop c.in_ok-form.next c.args.bytes.now) (λ n. drop n c.args.bytes.now) refl c.names_and_node-in-12.ensures.reads) }

pub read_term-returns-in-1 : goal.read_term-returns-in-1
read_term-returns-in-1 t c = record { reads = rw (begins 1 c.in_ok-form.ensures.form c.in-1.is) (boxed_read (λ x. x.0.value) (λ x. drop x.1 c.args.bytes.now) written_node FitsNode c.boxed.result (c.boxed.ensures.boxes (λ n. drop n c.args.bytes.now)) (in_node c.args.at (plain term_kind 1 (drop c.in_ok-form.next c.args.bytes.now) refl tt))) }

pub read_term-returns-in-2 : goal.read_term-returns-in-2
read_term-returns-in-2 t c = record { reads = rw (begins 2 c.in_ok-form.ensures.form c.in-2.is) (boxed_read (λ x. x.0.value) (λ x. drop x.1 c.args.bytes.now) written_node FitsNode c.boxed-in-2.result (c.boxed-in-2.ensures.boxes (λ n. drop n c.args.bytes.now)) (in_node c.args.at (plain term_kind 2 (drop c.in_ok-form.next c.args.bytes.now) refl tt))) }

pub read_term-returns-in-3 : goal.read_term-returns-in-3
read_term-returns-in-3 t c = record { reads = rw (begins 3 c.in_ok-form.ensures.form c.in-3.is) (c.read_history.ensures.reads) }

pub read_term-returns-in-8 : goal.read_term-returns-in-8
read_term-returns-in-8 t c = record { reads = rw (begins 8 c.in_ok-form.ensures.form c.in-8.is) (boxed_read (λ x. x.0.value) (λ x. drop x.1 c.args.bytes.now) written_node FitsNode c.boxed-in-8.result (c.boxed-in-8.ensures.boxes (λ n. drop n c.args.bytes.now)) (in_node c.args.at (plain term_kind 8 (drop c.in_ok-form.next c.args.bytes.now) refl tt))) }

pub read_term-returns-in-10 : goal.read_term-returns-in-10
read_term-returns-in-10 t c = record { reads = rw (begins 10 c.in_ok-form.ensures.form c.in-10.is) (c.read_let.ensures.reads) }

pub read_term-returns-in-13 : goal.read_term-returns-in-13
read_term-returns-in-13 t c = record { reads = rw (begins 13 c.in_ok-form.ensures.form c.in-13.is) (c.read_case_sum.ensures.reads) }

pub read_term-returns-in-14 : goal.read_term-returns-in-14
read_term-returns-in-14 t c = record { reads = rw (begins 14 c.in_ok-form.ensures.form c.in-14.is) (c.read_case_star.ensures.reads) }

pub read_term-returns-in-15 : goal.read_term-returns-in-15
read_term-returns-in-15 t c = record { reads = rw (begins 15 c.in_ok-form.ensures.form c.in-15.is) (c.read_wait.ensures.reads) }

pub read_term-returns-in-16 : goal.read_term-returns-in-16
read_term-returns-in-16 t c = record { reads = rw (begins 16 c.in_ok-form.ensures.form c.in-16.is) (c.read_call.ensures.reads) }

pub read_let-returns-in_err-x : goal.read_let-returns-in_err-x
read_let-returns-in_err-x t c =
    let exit = err_from_is_err_and c.from_residual.result c.from_residual.ensures.1 in
    record { reads = rw (exit.1, exit.2) (stops_in_node c.args.at (10 ∷ (drop c.args.start c.args.bytes.now)) c.in_err-x.field-0.0 (stops_in_form term_kind 10 ((any 4 ∷ form type_kind ∷ []) ++ (node_parts ++ node_parts)) (drop c.args.start c.args.bytes.now) c.in_err-x.field-0.0 refl (stops_first (any 4 ∷ form type_kind ∷ []) ((node_parts ++ node_parts)) (drop c.args.start c.args.bytes.now) c.in_err-x.field-0.0 c.in_err-x.ensures.reads))) }

pub read_let-returns-in_err-a : goal.read_let-returns-in_err-a
read_let-returns-in_err-a t c =
    let exit = err_from_is_err_and c.from_residual-in_err-a.result c.from_residual-in_err-a.ensures.1 in
    record { reads = rw (exit.1, exit.2) (stops_in_node c.args.at (10 ∷ (drop c.args.start c.args.bytes.now)) c.in_err-a.field-0.0 (stops_in_form term_kind 10 ((any 4 ∷ form type_kind ∷ []) ++ (node_parts ++ node_parts)) (drop c.args.start c.args.bytes.now) c.in_err-a.field-0.0 refl (stops_second ((node_parts ++ node_parts)) c.in_err-a.field-0.0 c.in_ok-x.ensures.reads (c.in_err-a.ensures.reads)))) }

pub read_let-returns : goal.read_let-returns
read_let-returns t c = record { reads = boxed_read (λ x. x.0.value) (λ x. drop x.1 c.args.bytes.now) written_node FitsNode c.boxed.result (c.boxed.ensures.boxes (λ n. drop n c.args.bytes.now)) (rw c.into_inner.ensures (in_node c.args.at (in_form term_kind 10 refl (as_written (append_assoc (short_bytes c.in_ok-x.x.0) (type_bytes (type_of c.in_ok-x.s.value)) _) flat_3 (then c.in_ok-x.ensures.reads c.in_ok-a.ensures.reads))))) }

pub names_and_node-returns-in_err-x : goal.names_and_node-returns-in_err-x
names_and_node-returns-in_err-x t c =
    let exit = err_from_is_err_and c.from_residual.result c.from_residual.ensures.1 in
    record { reads = rw (exit.1, exit.2) (stops_first (any 4 ∷ any 4 ∷ any 4 ∷ []) (node_parts) (drop c.args.start c.args.bytes.now) c.in_err-x.field-0.0 c.in_err-x.ensures.reads) }

pub names_and_node-returns-in_err-a : goal.names_and_node-returns-in_err-a
names_and_node-returns-in_err-a t c =
    let exit = err_from_is_err_and c.from_residual-in_err-a.result c.from_residual-in_err-a.ensures.1 in
    record { reads = rw (exit.1, exit.2) (stops_second (node_parts) c.in_err-a.field-0.0 c.in_ok-x.ensures.reads (c.in_err-a.ensures.reads)) }

pub names_and_node-returns : goal.names_and_node-returns
names_and_node-returns t c = record { reads = as_written (grouped (short_bytes c.in_ok-x.x.0) (short_bytes c.in_ok-x.y.0) (short_bytes c.in_ok-x.z.0) (written_node c.in_ok-a.a.value)) (λ s. s) (then c.in_ok-x.ensures.reads c.in_ok-a.ensures.reads) }

pub read_case_sum-returns-in_err-z : goal.read_case_sum-returns-in_err-z
read_case_sum-returns-in_err-z t c =
    let exit = err_from_is_err_and c.from_residual.result c.from_residual.ensures.1 in
    record { reads = rw (exit.1, exit.2) (stops_in_node c.args.at (13 ∷ (drop c.args.start c.args.bytes.now)) c.in_err-z.field-0.0 (stops_in_form term_kind 13 ((any 4 ∷ form type_kind ∷ []) ++ (any 4 ∷ []) ++ node_parts ++ (any 4 ∷ []) ++ node_parts) (drop c.args.start c.args.bytes.now) c.in_err-z.field-0.0 refl (stops_first (any 4 ∷ form type_kind ∷ []) ((any 4 ∷ []) ++ node_parts ++ (any 4 ∷ []) ++ node_parts) (drop c.args.start c.args.bytes.now) c.in_err-z.field-0.0 c.in_err-z.ensures.reads))) }

pub read_case_sum-returns-in_err-x : goal.read_case_sum-returns-in_err-x
read_case_sum-returns-in_err-x t c =
    let exit = err_from_is_err_and c.from_residual-in_err-x.result c.from_residual-in_err-x.ensures.1 in
    record { reads = rw (exit.1, exit.2) (stops_in_node c.args.at (13 ∷ (drop c.args.start c.args.bytes.now)) c.in_err-x.field-0.0 (stops_in_form term_kind 13 ((any 4 ∷ form type_kind ∷ []) ++ (any 4 ∷ []) ++ node_parts ++ (any 4 ∷ []) ++ node_parts) (drop c.args.start c.args.bytes.now) c.in_err-x.field-0.0 refl (stops_second ((any 4 ∷ []) ++ node_parts ++ (any 4 ∷ []) ++ node_parts) c.in_err-x.field-0.0 c.in_ok-z.ensures.reads (stops_first (any 4 ∷ []) (node_parts ++ (any 4 ∷ []) ++ node_parts) (drop c.in_ok-z.next c.args.bytes.now) c.in_err-x.field-0.0 c.in_err-x.ensures.reads)))) }

pub read_case_sum-returns-in_err-a : goal.read_case_sum-returns-in_err-a
read_case_sum-returns-in_err-a t c =
    let exit = err_from_is_err_and c.from_residual-in_err-a.result c.from_residual-in_err-a.ensures.1 in
    record { reads = rw (exit.1, exit.2) (stops_in_node c.args.at (13 ∷ (drop c.args.start c.args.bytes.now)) c.in_err-a.field-0.0 (stops_in_form term_kind 13 ((any 4 ∷ form type_kind ∷ []) ++ (any 4 ∷ []) ++ node_parts ++ (any 4 ∷ []) ++ node_parts) (drop c.args.start c.args.bytes.now) c.in_err-a.field-0.0 refl (stops_second ((any 4 ∷ []) ++ node_parts ++ (any 4 ∷ []) ++ node_parts) c.in_err-a.field-0.0 c.in_ok-z.ensures.reads (stops_second (node_parts ++ (any 4 ∷ []) ++ node_parts) c.in_err-a.field-0.0 c.in_ok-x.ensures.reads (stops_first node_parts ((any 4 ∷ []) ++ node_parts) (drop c.in_ok-x.next c.args.bytes.now) c.in_err-a.field-0.0 c.in_err-a.ensures.reads))))) }

pub read_case_sum-returns-in_err-y : goal.read_case_sum-returns-in_err-y
read_case_sum-returns-in_err-y t c =
    let exit = err_from_is_err_and c.from_residual-in_err-y.result c.from_residual-in_err-y.ensures.1 in
    record { reads = rw (exit.1, exit.2) (stops_in_node c.args.at (13 ∷ (drop c.args.start c.args.bytes.now)) c.in_err-y.field-0.0 (stops_in_form term_kind 13 ((any 4 ∷ form type_kind ∷ []) ++ (any 4 ∷ []) ++ node_parts ++ (any 4 ∷ []) ++ node_parts) (drop c.args.start c.args.bytes.now) c.in_err-y.field-0.0 refl (stops_second ((any 4 ∷ []) ++ node_parts ++ (any 4 ∷ []) ++ node_parts) c.in_err-y.field-0.0 c.in_ok-z.ensures.reads (stops_second (node_parts ++ (any 4 ∷ []) ++ node_parts) c.in_err-y.field-0.0 c.in_ok-x.ensures.reads (stops_second ((any 4 ∷ []) ++ node_parts) c.in_err-y.field-0.0 c.in_ok-a.ensures.reads (stops_first (any 4 ∷ []) (node_parts) (drop c.in_ok-a.next c.args.bytes.now) c.in_err-y.field-0.0 c.in_err-y.ensures.reads)))))) }

pub read_case_sum-returns-in_err-b : goal.read_case_sum-returns-in_err-b
read_case_sum-returns-in_err-b t c =
    let exit = err_from_is_err_and c.from_residual-in_err-b.result c.from_residual-in_err-b.ensures.1 in
    record { reads = rw (exit.1, exit.2) (stops_in_node c.args.at (13 ∷ (drop c.args.start c.args.bytes.now)) c.in_err-b.field-0.0 (stops_in_form term_kind 13 ((any 4 ∷ form type_kind ∷ []) ++ (any 4 ∷ []) ++ node_parts ++ (any 4 ∷ []) ++ node_parts) (drop c.args.start c.args.bytes.now) c.in_err-b.field-0.0 refl (stops_second ((any 4 ∷ []) ++ node_parts ++ (any 4 ∷ []) ++ node_parts) c.in_err-b.field-0.0 c.in_ok-z.ensures.reads (stops_second (node_parts ++ (any 4 ∷ []) ++ node_parts) c.in_err-b.field-0.0 c.in_ok-x.ensures.reads (stops_second ((any 4 ∷ []) ++ node_parts) c.in_err-b.field-0.0 c.in_ok-a.ensures.reads (stops_second (node_parts) c.in_err-b.field-0.0 c.in_ok-y.ensures.reads (c.in_err-b.ensures.reads))))))) }

pub read_case_sum-returns : goal.read_case_sum-returns
read_case_sum-returns t c = record { reads = boxed_read (λ x. x.0.value) (λ x. drop x.1 c.args.bytes.now) written_node FitsNode c.boxed.result (c.boxed.ensures.boxes (λ n. drop n c.args.bytes.now)) (rw c.into_inner.ensures (in_node c.args.at (in_form term_kind 13 refl (as_written (append_assoc (short_bytes c.in_ok-z.z.0) (type_bytes (type_of c.in_ok-z.t.value)) _) flat_5 (then c.in_ok-z.ensures.reads (then c.in_ok-x.ensures.reads (then c.in_ok-a.ensures.reads (then c.in_ok-y.ensures.reads c.in_ok-b.ensures.reads)))))))) }

pub read_case_star-returns-in_err-z : goal.read_case_star-returns-in_err-z
read_case_star-returns-in_err-z t c =
    let exit = err_from_is_err_and c.from_residual.result c.from_residual.ensures.1 in
    record { reads = rw (exit.1, exit.2) (stops_in_node c.args.at (14 ∷ (drop c.args.start c.args.bytes.now)) c.in_err-z.field-0.0 (stops_in_form term_kind 14 ((any 4 ∷ form type_kind ∷ []) ++ node_parts ++ (any 4 ∷ []) ++ (any 4 ∷ []) ++ node_parts) (drop c.args.start c.args.bytes.now) c.in_err-z.field-0.0 refl (stops_first (any 4 ∷ form type_kind ∷ []) (node_parts ++ (any 4 ∷ []) ++ (any 4 ∷ []) ++ node_parts) (drop c.args.start c.args.bytes.now) c.in_err-z.field-0.0 c.in_err-z.ensures.reads))) }

pub read_case_star-returns-in_err-a : goal.read_case_star-returns-in_err-a
read_case_star-returns-in_err-a t c =
    let exit = err_from_is_err_and c.from_residual-in_err-a.result c.from_residual-in_err-a.ensures.1 in
    record { reads = rw (exit.1, exit.2) (stops_in_node c.args.at (14 ∷ (drop c.args.start c.args.bytes.now)) c.in_err-a.field-0.0 (stops_in_form term_kind 14 ((any 4 ∷ form type_kind ∷ []) ++ node_parts ++ (any 4 ∷ []) ++ (any 4 ∷ []) ++ node_parts) (drop c.args.start c.args.bytes.now) c.in_err-a.field-0.0 refl (stops_second (node_parts ++ (any 4 ∷ []) ++ (any 4 ∷ []) ++ node_parts) c.in_err-a.field-0.0 c.in_ok-z.ensures.reads (stops_first node_parts ((any 4 ∷ []) ++ (any 4 ∷ []) ++ node_parts) (drop c.in_ok-z.next c.args.bytes.now) c.in_err-a.field-0.0 c.in_err-a.ensures.reads)))) }

pub read_case_star-returns-in_err-y : goal.read_case_star-returns-in_err-y
read_case_star-returns-in_err-y t c =
    let exit = err_from_is_err_and c.from_residual-in_err-y.result c.from_residual-in_err-y.ensures.1 in
    record { reads = rw (exit.1, exit.2) (stops_in_node c.args.at (14 ∷ (drop c.args.start c.args.bytes.now)) c.in_err-y.field-0.0 (stops_in_form term_kind 14 ((any 4 ∷ form type_kind ∷ []) ++ node_parts ++ (any 4 ∷ []) ++ (any 4 ∷ []) ++ node_parts) (drop c.args.start c.args.bytes.now) c.in_err-y.field-0.0 refl (stops_second (node_parts ++ (any 4 ∷ []) ++ (any 4 ∷ []) ++ node_parts) c.in_err-y.field-0.0 c.in_ok-z.ensures.reads (stops_second ((any 4 ∷ []) ++ (any 4 ∷ []) ++ node_parts) c.in_err-y.field-0.0 c.in_ok-a.ensures.reads (stops_first (any 4 ∷ []) ((any 4 ∷ []) ++ node_parts) (drop c.in_ok-a.next c.args.bytes.now) c.in_err-y.field-0.0 c.in_err-y.ensures.reads))))) }

pub read_case_star-returns-in_err-ys : goal.read_case_star-returns-in_err-ys
read_case_star-returns-in_err-ys t c =
    let exit = err_from_is_err_and c.from_residual-in_err-ys.result c.from_residual-in_err-ys.ensures.1 in
    record { reads = rw (exit.1, exit.2) (stops_in_node c.args.at (14 ∷ (drop c.args.start c.args.bytes.now)) c.in_err-ys.field-0.0 (stops_in_form term_kind 14 ((any 4 ∷ form type_kind ∷ []) ++ node_parts ++ (any 4 ∷ []) ++ (any 4 ∷ []) ++ node_parts) (drop c.args.start c.args.bytes.now) c.in_err-ys.field-0.0 refl (stops_second (node_parts ++ (any 4 ∷ []) ++ (any 4 ∷ []) ++ node_parts) c.in_err-ys.field-0.0 c.in_ok-z.ensures.reads (stops_second ((any 4 ∷ []) ++ (any 4 ∷ []) ++ node_parts) c.in_err-ys.field-0.0 c.in_ok-a.ensures.reads (stops_second ((any 4 ∷ []) ++ node_parts) c.in_err-ys.field-0.0 c.in_ok-y.ensures.reads (stops_first (any 4 ∷ []) (node_parts) (drop c.in_ok-y.next c.args.bytes.now) c.in_err-ys.field-0.0 c.in_err-ys.ensures.reads)))))) }

pub read_case_star-returns-in_err-b : goal.read_case_star-returns-in_err-b
read_case_star-returns-in_err-b t c =
    let exit = err_from_is_err_and c.from_residual-in_err-b.result c.from_residual-in_err-b.ensures.1 in
    record { reads = rw (exit.1, exit.2) (stops_in_node c.args.at (14 ∷ (drop c.args.start c.args.bytes.now)) c.in_err-b.field-0.0 (stops_in_form term_kind 14 ((any 4 ∷ form type_kind ∷ []) ++ node_parts ++ (any 4 ∷ []) ++ (any 4 ∷ []) ++ node_parts) (drop c.args.start c.args.bytes.now) c.in_err-b.field-0.0 refl (stops_second (node_parts ++ (any 4 ∷ []) ++ (any 4 ∷ []) ++ node_parts) c.in_err-b.field-0.0 c.in_ok-z.ensures.reads (stops_second ((any 4 ∷ []) ++ (any 4 ∷ []) ++ node_parts) c.in_err-b.field-0.0 c.in_ok-a.ensures.reads (stops_second ((any 4 ∷ []) ++ node_parts) c.in_err-b.field-0.0 c.in_ok-y.ensures.reads (stops_second (node_parts) c.in_err-b.field-0.0 c.in_ok-ys.ensures.reads (c.in_err-b.ensures.reads))))))) }

pub read_case_star-returns : goal.read_case_star-returns
read_case_star-returns t c = record { reads = boxed_read (λ x. x.0.value) (λ x. drop x.1 c.args.bytes.now) written_node FitsNode c.boxed.result (c.boxed.ensures.boxes (λ n. drop n c.args.bytes.now)) (rw c.into_inner.ensures (in_node c.args.at (in_form term_kind 14 refl (as_written (append_assoc (short_bytes c.in_ok-z.z.0) (type_bytes (type_of c.in_ok-z.t.value)) _) flat_5 (then c.in_ok-z.ensures.reads (then c.in_ok-a.ensures.reads (then c.in_ok-y.ensures.reads (then c.in_ok-ys.ensures.reads c.in_ok-b.ensures.reads)))))))) }

pub read_wait-returns-in_err-x : goal.read_wait-returns-in_err-x
read_wait-returns-in_err-x t c =
    let exit = err_from_is_err_and c.from_residual.result c.from_residual.ensures.1 in
    record { reads = rw (exit.1, exit.2) (stops_in_node c.args.at (15 ∷ (drop c.args.start c.args.bytes.now)) c.in_err-x.field-0.0 (stops_in_form term_kind 15 ((any 4 ∷ form type_kind ∷ []) ++ node_parts) (drop c.args.start c.args.bytes.now) c.in_err-x.field-0.0 refl (stops_first (any 4 ∷ form type_kind ∷ []) (node_parts) (drop c.args.start c.args.bytes.now) c.in_err-x.field-0.0 c.in_err-x.ensures.reads))) }

pub read_wait-returns-in_err-a : goal.read_wait-returns-in_err-a
read_wait-returns-in_err-a t c =
    let exit = err_from_is_err_and c.from_residual-in_err-a.result c.from_residual-in_err-a.ensures.1 in
    record { reads = rw (exit.1, exit.2) (stops_in_node c.args.at (15 ∷ (drop c.args.start c.args.bytes.now)) c.in_err-a.field-0.0 (stops_in_form term_kind 15 ((any 4 ∷ form type_kind ∷ []) ++ node_parts) (drop c.args.start c.args.bytes.now) c.in_err-a.field-0.0 refl (stops_second (node_parts) c.in_err-a.field-0.0 c.in_ok-x.ensures.reads (c.in_err-a.ensures.reads)))) }

pub read_wait-returns : goal.read_wait-returns
read_wait-returns t c = record { reads = boxed_read (λ x. x.0.value) (λ x. drop x.1 c.args.bytes.now) written_node FitsNode c.boxed.result (c.boxed.ensures.boxes (λ n. drop n c.args.bytes.now)) (rw c.into_inner.ensures (in_node c.args.at (in_form term_kind 15 refl (as_written (append_assoc (short_bytes c.in_ok-x.x.0) (type_bytes (type_of c.in_ok-x.t.value)) _) (λ s. s) (then c.in_ok-x.ensures.reads c.in_ok-a.ensures.reads))))) }

pub read_call-returns-in_err-f : goal.read_call-returns-in_err-f
read_call-returns-in_err-f t c =
    let exit = err_from_is_err_and c.from_residual.result c.from_residual.ensures.1 in
    record { reads = rw (exit.1, exit.2) (stops_in_node c.args.at (16 ∷ (drop c.args.start c.args.bytes.now)) c.in_err-f.field-0.0 (stops_in_form term_kind 16 ((any 4 ∷ []) ++ (list_part expr_item ∷ []) ++ (list_part node_item ∷ [])) (drop c.args.start c.args.bytes.now) c.in_err-f.field-0.0 refl (stops_first (any 4 ∷ []) ((list_part expr_item ∷ []) ++ (list_part node_item ∷ [])) (drop c.args.start c.args.bytes.now) c.in_err-f.field-0.0 c.in_err-f.ensures.reads))) }

pub read_call-returns-in_err-ms : goal.read_call-returns-in_err-ms
read_call-returns-in_err-ms t c =
    let exit = err_from_is_err_and c.from_residual-in_err-ms.result c.from_residual-in_err-ms.ensures.1 in
    record { reads = rw (exit.1, exit.2) (stops_in_node c.args.at (16 ∷ (drop c.args.start c.args.bytes.now)) c.in_err-ms.field-0.0 (stops_in_form term_kind 16 ((any 4 ∷ []) ++ (list_part expr_item ∷ []) ++ (list_part node_item ∷ [])) (drop c.args.start c.args.bytes.now) c.in_err-ms.field-0.0 refl (stops_second ((list_part expr_item ∷ []) ++ (list_part node_item ∷ [])) c.in_err-ms.field-0.0 c.in_ok-f.ensures.reads (stops_first (list_part expr_item ∷ []) ((list_part node_item ∷ [])) (drop c.in_ok-f.next c.args.bytes.now) c.in_err-ms.field-0.0 c.in_err-ms.ensures.reads)))) }

pub read_call-returns-in_err-es : goal.read_call-returns-in_err-es
read_call-returns-in_err-es t c =
    let exit = err_from_is_err_and c.from_residual-in_err-es.result c.from_residual-in_err-es.ensures.1 in
    record { reads = rw (exit.1, exit.2) (stops_in_node c.args.at (16 ∷ (drop c.args.start c.args.bytes.now)) c.in_err-es.field-0.0 (stops_in_form term_kind 16 ((any 4 ∷ []) ++ (list_part expr_item ∷ []) ++ (list_part node_item ∷ [])) (drop c.args.start c.args.bytes.now) c.in_err-es.field-0.0 refl (stops_second ((list_part expr_item ∷ []) ++ (list_part node_item ∷ [])) c.in_err-es.field-0.0 c.in_ok-f.ensures.reads (stops_second ((list_part node_item ∷ [])) c.in_err-es.field-0.0 c.in_ok-ms.ensures.reads (c.in_err-es.ensures.reads))))) }

pub read_call-returns : goal.read_call-returns
read_call-returns t c = record { reads = boxed_read (λ x. x.0.value) (λ x. drop x.1 c.args.bytes.now) written_node FitsNode c.boxed.result (c.boxed.ensures.boxes (λ n. drop n c.args.bytes.now)) (as_written (ap (λ bs. short_bytes c.args.at ++ bs) (sym (call_bytes c.in_ok-f.f c.in_ok-ms.ms c.in_ok-es.es))) (call_fits c.in_ok-f.f c.in_ok-ms.ms c.in_ok-es.es) (in_node c.args.at (in_form term_kind 16 refl (then c.in_ok-f.ensures.reads (then c.in_ok-ms.ensures.reads c.in_ok-es.ensures.reads))))) }

pub read_nodes-returns-in_err-count : goal.read_nodes-returns-in_err-count
read_nodes-returns-in_err-count t c =
    let exit = err_from_is_err_and c.from_residual.result c.from_residual.ensures.1 in
    record { reads = rw (exit.1, exit.2) (count_stops node_item (drop c.args.start c.args.bytes.now) c.in_err-count.field-0.0 c.in_err-count.ensures.reads) }

pub read_nodes-returns-in-Err : goal.read_nodes-returns-in-Err
read_nodes-returns-in-Err t c =
    let lt : c.items.counter < c.in_ok-count.count = omega arith in
    record { reads = list_ended node_item c.pushed.new.items.items c.read_node.result c.in-Err.halt (λ x. x.0.value) (λ x. drop x.1 c.args.bytes.now) (λ n. drop n c.args.bytes.now) c.in_ok-count.ensures.reads c.items.invariant lt (c.in-Err.ensures (λ n. drop n c.args.bytes.now)) c.read_node.ensures.reads }

pub read_nodes-items-init : goal.read_nodes-items-init
read_nodes-items-init t c = none_read _ _ _ _ c.in_ok-count.count (drop c.in_ok-count.next c.args.bytes.now) c.new-items.result.items c.new-items.ensures.items

pub read_nodes-items-preserved : goal.read_nodes-items-preserved
read_nodes-items-preserved t c =
    let lt : c.items.counter < c.in_ok-count.count = omega arith in
    list_pushed c.read_node.result c.in-Ok.behind (λ x. x.0.value) (λ x. drop x.1 c.args.bytes.now) (λ n. drop n c.args.bytes.now) c.items.invariant lt (c.in-Ok.ensures (λ n. drop n c.args.bytes.now)) c.read_node.ensures.reads

pub read_nodes-returns : goal.read_nodes-returns
read_nodes-returns t c =
    let all : c.items.counter ≡ c.in_ok-count.count = omega arith in
    record { reads = list_read_same c.in_ok-count.ensures.reads c.items.invariant all }

pub read_term-returns-in_default : goal.read_term-returns-in_default
read_term-returns-in_default t c = record { reads = stops_in_node c.args.at (drop c.args.start c.args.bytes.now) c.misplaced.result (stops_at term_kind (search rules) c.in_ok-form.ensures.form c.misplaced.ensures) }
