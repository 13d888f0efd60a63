-- States by their forms.
use Rattle.std.proofs.Common.{◌≡◌, [], ◌∷◌, ◌++◌, sym, refl, append_assoc, drop, rules}
use Rattle.std.proofs.lemmas.Result.{err_from_is_err_and}
use Rattle.kept_state.specs.KeptForm.{type_kind, state_kind, argument_item, any, form, list_part, later_parts}
use Rattle.kept_state.specs.KeptBytes.{short_bytes, type_bytes}
use Rattle.kept_state.specs.KeptSizes.{FitsState}
use Rattle.stream_type.specs.StreamType.{type_of}
use Rattle.delta_keep.specs.KeptView.{state_of}
use Rattle.delta_keep.specs.Written.{written_state}
use Rattle.delta_keep.proofs.Trees.{frame_bytes}
use Rattle.delta_keep.proofs.Sizes.{frame_fits}
use Rattle.delta_keep.proofs.Pieces.{then, as_written, stops_first, stops_second, in_form, stops_in_form, stops_before, begins, boxed_read, grouped, flat_3}
use Rattle.std.proofs.Common.{◌<◌, arith}
use Rattle.delta_keep.proofs.ReadLists.{none_read, list_pushed, list_ended, count_stops, list_read_same}
use Rattle.delta_keep.proofs.Placing.{stops_at}
use Rattle.delta_keep.proofs.read_states.+read_states.Goals as goal

pub two_states-returns-in_err-first : goal.two_states-returns-in_err-first
two_states-returns-in_err-first t c =
    let exit = err_from_is_err_and c.from_residual.result c.from_residual.ensures.1 in
    record { reads = rw (exit.1, exit.2) (stops_first (form state_kind ∷ []) ((form state_kind ∷ [])) (drop c.args.start c.args.bytes.now) c.in_err-first.field-0.0 c.in_err-first.ensures.reads) }

pub two_states-returns-in_err-second : goal.two_states-returns-in_err-second
two_states-returns-in_err-second t c =
    let exit = err_from_is_err_and c.from_residual-in_err-second.result c.from_residual-in_err-second.ensures.1 in
    record { reads = rw (exit.1, exit.2) (stops_second ((form state_kind ∷ [])) c.in_err-second.field-0.0 c.in_ok-first.ensures.reads (c.in_err-second.ensures.reads)) }

pub two_states-returns : goal.two_states-returns
two_states-returns t c = record { reads = (then c.in_ok-first.ensures.reads c.in_ok-second.ensures.reads) }

pub read_state-returns-in_err-form : goal.read_state-returns-in_err-form
read_state-returns-in_err-form t c =
    let exit = err_from_is_err_and c.from_residual.result c.from_residual.ensures.1 in
    record { reads = rw (exit.1, exit.2) (stops_before state_kind (drop c.args.start c.args.bytes.now) c.in_err-form.field-0.0 c.in_err-form.ensures.none) }

pub read_state-returns-in-0 : goal.read_state-returns-in-0
read_state-returns-in-0 t c = record { reads = rw (begins 0 c.in_ok-form.ensures.form c.in-0.is) (c.read_sink.ensures) }

pub read_state-returns-in-1 : goal.read_state-returns-in-1
read_state-returns-in-1 t c = record { reads = rw (begins 1 c.in_ok-form.ensures.form c.in-1.is) (c.read_variable.ensures) }

pub read_state-returns-in-2 : goal.read_state-returns-in-2
read_state-returns-in-2 t c = record { reads = rw (begins 2 c.in_ok-form.ensures.form c.in-2.is) (c.par_done.ensures (drop c.in_ok-form.next c.args.bytes.now) (λ n. drop n c.args.bytes.now) c.two_states.ensures.reads) }

pub read_state-returns-in-5 : goal.read_state-returns-in-5
read_state-returns-in-5 t c = record { reads = rw (begins 5 c.in_ok-form.ensures.form c.in-5.is) (c.names_done.ensures (drop c.in_ok-form.next c.args.bytes.now) (λ n. drop n c.args.bytes.now) refl c.names_and_state.ensures.reads) }

pub read_state-returns-in-6 : goal.read_state-returns-in-6
read_state-returns-in-6 t c = record { reads = rw (begins 6 c.in_ok-form.ensures.form c.in-6.is) (c.names_done-in-6.ensures (drop c.in_ok-form.next c.args.bytes.now) (λ n. drop n c.args.bytes.now) refl c.names_and_state-in-6.ensures.reads) }

pub read_state-returns-in-3 : goal.read_state-returns-in-3
read_state-returns-in-3 t c = record { reads = rw (begins 3 c.in_ok-form.ensures.form c.in-3.is) (c.read_cat.ensures.reads) }

pub read_state-returns-in-4 : goal.read_state-returns-in-4
read_state-returns-in-4 t c = record { reads = rw (begins 4 c.in_ok-form.ensures.form c.in-4.is) (c.read_let.ensures.reads) }

pub read_state-returns-in-7 : goal.read_state-returns-in-7
read_state-returns-in-7 t c = record { reads = rw (begins 7 c.in_ok-form.ensures.form c.in-7.is) (c.read_case_sum.ensures.reads) }

pub read_state-returns-in-8 : goal.read_state-returns-in-8
read_state-returns-in-8 t c = record { reads = rw (begins 8 c.in_ok-form.ensures.form c.in-8.is) (c.read_case_star.ensures.reads) }

pub read_state-returns-in-9 : goal.read_state-returns-in-9
read_state-returns-in-9 t c = record { reads = rw (begins 9 c.in_ok-form.ensures.form c.in-9.is) (c.read_wait.ensures.reads) }

pub read_state-returns-in-10 : goal.read_state-returns-in-10
read_state-returns-in-10 t c = record { reads = rw (begins 10 c.in_ok-form.ensures.form c.in-10.is) (c.read_frame.ensures.reads) }

pub read_cat-returns-in_err-a : goal.read_cat-returns-in_err-a
read_cat-returns-in_err-a t c =
    let exit = err_from_is_err_and c.from_residual.result c.from_residual.ensures.1 in
    record { reads = rw (exit.1, exit.2) (stops_in_form state_kind 3 ((form state_kind ∷ []) ++ later_parts) (drop c.args.start c.args.bytes.now) c.in_err-a.field-0.0 refl (stops_first (form state_kind ∷ []) (later_parts) (drop c.args.start c.args.bytes.now) c.in_err-a.field-0.0 c.in_err-a.ensures.reads)) }

pub read_cat-returns-in_err-l : goal.read_cat-returns-in_err-l
read_cat-returns-in_err-l t c =
    let exit = err_from_is_err_and c.from_residual-in_err-l.result c.from_residual-in_err-l.ensures.1 in
    record { reads = rw (exit.1, exit.2) (stops_in_form state_kind 3 ((form state_kind ∷ []) ++ later_parts) (drop c.args.start c.args.bytes.now) c.in_err-l.field-0.0 refl (stops_second (later_parts) c.in_err-l.field-0.0 c.in_ok-a.ensures.reads (c.in_err-l.ensures.reads))) }

pub read_cat-returns : goal.read_cat-returns
read_cat-returns t c = record { reads = boxed_read (λ x. x.0.value) (λ x. drop x.1 c.args.bytes.now) written_state (λ s. FitsState (state_of s)) c.boxed.result (c.boxed.ensures.boxes (λ n. drop n c.args.bytes.now)) (in_form state_kind 3 refl (then c.in_ok-a.ensures.reads c.in_ok-l.ensures.reads)) }

pub read_let-returns-in_err-x : goal.read_let-returns-in_err-x
read_let-returns-in_err-x t c =
    let exit = err_from_is_err_and c.from_residual.result c.from_residual.ensures.1 in
    record { reads = rw (exit.1, exit.2) (stops_in_form state_kind 4 ((any 4 ∷ form type_kind ∷ []) ++ (form state_kind ∷ form state_kind ∷ [])) (drop c.args.start c.args.bytes.now) c.in_err-x.field-0.0 refl (stops_first (any 4 ∷ form type_kind ∷ []) ((form state_kind ∷ form state_kind ∷ [])) (drop c.args.start c.args.bytes.now) c.in_err-x.field-0.0 c.in_err-x.ensures.reads)) }

pub read_let-returns-in_err-a : goal.read_let-returns-in_err-a
read_let-returns-in_err-a t c =
    let exit = err_from_is_err_and c.from_residual-in_err-a.result c.from_residual-in_err-a.ensures.1 in
    record { reads = rw (exit.1, exit.2) (stops_in_form state_kind 4 ((any 4 ∷ form type_kind ∷ []) ++ (form state_kind ∷ form state_kind ∷ [])) (drop c.args.start c.args.bytes.now) c.in_err-a.field-0.0 refl (stops_second ((form state_kind ∷ form state_kind ∷ [])) c.in_err-a.field-0.0 c.in_ok-x.ensures.reads (c.in_err-a.ensures.reads))) }

pub read_let-returns : goal.read_let-returns
read_let-returns t c = record { reads = boxed_read (λ x. x.0.value) (λ x. drop x.1 c.args.bytes.now) written_state (λ s. FitsState (state_of s)) c.boxed.result (c.boxed.ensures.boxes (λ n. drop n c.args.bytes.now)) (in_form state_kind 4 refl (as_written (append_assoc (short_bytes c.in_ok-x.x.0) (type_bytes (type_of c.in_ok-x.t.value)) _) flat_3 (then c.in_ok-x.ensures.reads c.in_ok-a.ensures.reads))) }

pub names_and_state-returns-in_err-x : goal.names_and_state-returns-in_err-x
names_and_state-returns-in_err-x t c =
    let exit = err_from_is_err_and c.from_residual.result c.from_residual.ensures.1 in
    record { reads = rw (exit.1, exit.2) (stops_first (any 4 ∷ any 4 ∷ any 4 ∷ []) ((form state_kind ∷ [])) (drop c.args.start c.args.bytes.now) c.in_err-x.field-0.0 c.in_err-x.ensures.reads) }

pub names_and_state-returns-in_err-a : goal.names_and_state-returns-in_err-a
names_and_state-returns-in_err-a t c =
    let exit = err_from_is_err_and c.from_residual-in_err-a.result c.from_residual-in_err-a.ensures.1 in
    record { reads = rw (exit.1, exit.2) (stops_second ((form state_kind ∷ [])) c.in_err-a.field-0.0 c.in_ok-x.ensures.reads (c.in_err-a.ensures.reads)) }

pub names_and_state-returns : goal.names_and_state-returns
names_and_state-returns t c = record { reads = as_written (grouped (short_bytes c.in_ok-x.x.0) (short_bytes c.in_ok-x.y.0) (short_bytes c.in_ok-x.z.0) (written_state c.in_ok-a.a.value)) (λ s. s) (then c.in_ok-x.ensures.reads c.in_ok-a.ensures.reads) }

pub read_frame-returns-in_err-args : goal.read_frame-returns-in_err-args
read_frame-returns-in_err-args t c =
    let exit = err_from_is_err_and c.from_residual.result c.from_residual.ensures.1 in
    record { reads = rw (exit.1, exit.2) (stops_in_form state_kind 10 (list_part argument_item ∷ form state_kind ∷ []) (drop c.args.start c.args.bytes.now) c.in_err-args.field-0.0 refl (stops_first (list_part argument_item ∷ []) ((form state_kind ∷ [])) (drop c.args.start c.args.bytes.now) c.in_err-args.field-0.0 c.in_err-args.ensures.reads)) }

pub read_frame-returns-in_err-s : goal.read_frame-returns-in_err-s
read_frame-returns-in_err-s t c =
    let exit = err_from_is_err_and c.from_residual-in_err-s.result c.from_residual-in_err-s.ensures.1 in
    record { reads = rw (exit.1, exit.2) (stops_in_form state_kind 10 (list_part argument_item ∷ form state_kind ∷ []) (drop c.args.start c.args.bytes.now) c.in_err-s.field-0.0 refl (stops_second ((form state_kind ∷ [])) c.in_err-s.field-0.0 c.in_ok-args.ensures.reads (c.in_err-s.ensures.reads))) }

pub read_frame-returns : goal.read_frame-returns
read_frame-returns t c = record { reads = boxed_read (λ x. x.0.value) (λ x. drop x.1 c.args.bytes.now) written_state (λ s. FitsState (state_of s)) c.boxed.result (c.boxed.ensures.boxes (λ n. drop n c.args.bytes.now)) (as_written (sym (frame_bytes c.in_ok-args.args c.in_ok-s.s)) (frame_fits c.in_ok-args.args c.in_ok-s.s) (in_form state_kind 10 refl (then c.in_ok-args.ensures.reads c.in_ok-s.ensures.reads))) }

pub read_argument-returns-in_err-name : goal.read_argument-returns-in_err-name
read_argument-returns-in_err-name t c =
    let exit = err_from_is_err_and c.from_residual.result c.from_residual.ensures.1 in
    record { reads = rw (exit.1, exit.2) (stops_first (any 4 ∷ form type_kind ∷ []) ((form state_kind ∷ [])) (drop c.args.start c.args.bytes.now) c.in_err-name.field-0.0 c.in_err-name.ensures.reads) }

pub read_argument-returns-in_err-state : goal.read_argument-returns-in_err-state
read_argument-returns-in_err-state t c =
    let exit = err_from_is_err_and c.from_residual-in_err-state.result c.from_residual-in_err-state.ensures.1 in
    record { reads = rw (exit.1, exit.2) (stops_second ((form state_kind ∷ [])) c.in_err-state.field-0.0 c.in_ok-name.ensures.reads (c.in_err-state.ensures.reads)) }

pub read_argument-returns : goal.read_argument-returns
read_argument-returns t c = record { reads = as_written (append_assoc (short_bytes c.in_ok-name.name.0) (type_bytes (type_of c.in_ok-name.ty.value)) (written_state c.in_ok-state.state.value)) (λ s. s) (then c.in_ok-name.ensures.reads c.in_ok-state.ensures.reads) }

pub read_arguments-returns-in_err-count : goal.read_arguments-returns-in_err-count
read_arguments-returns-in_err-count t c =
    let exit = err_from_is_err_and c.from_residual.result c.from_residual.ensures.1 in
    record { reads = rw (exit.1, exit.2) (count_stops argument_item (drop c.args.start c.args.bytes.now) c.in_err-count.field-0.0 c.in_err-count.ensures.reads) }

pub read_arguments-returns-in-Err : goal.read_arguments-returns-in-Err
read_arguments-returns-in-Err t c =
    let lt : c.items.counter < c.in_ok-count.count = omega arith in
    record { reads = list_ended argument_item c.added.new.items.items c.read_argument.result c.in-Err.halt (λ x. x.0) (λ x. drop x.1 c.args.bytes.now) (λ n. drop n c.args.bytes.now) c.in_ok-count.ensures.reads c.items.invariant lt (c.in-Err.ensures (λ n. drop n c.args.bytes.now)) c.read_argument.ensures.reads }

pub read_arguments-items-init : goal.read_arguments-items-init
read_arguments-items-init t c = none_read _ _ _ _ c.in_ok-count.count (drop c.in_ok-count.next c.args.bytes.now) c.new-items.result.items c.new-items.ensures.items

pub read_arguments-items-preserved : goal.read_arguments-items-preserved
read_arguments-items-preserved t c =
    let lt : c.items.counter < c.in_ok-count.count = omega arith in
    list_pushed c.read_argument.result c.in-Ok.behind (λ x. x.0) (λ x. drop x.1 c.args.bytes.now) (λ n. drop n c.args.bytes.now) c.items.invariant lt (c.in-Ok.ensures (λ n. drop n c.args.bytes.now)) c.read_argument.ensures.reads

pub read_arguments-returns : goal.read_arguments-returns
read_arguments-returns t c =
    let all : c.items.counter ≡ c.in_ok-count.count = omega arith in
    record { reads = list_read_same c.in_ok-count.ensures.reads c.items.invariant all }

pub read_state-returns-in_default : goal.read_state-returns-in_default
read_state-returns-in_default t c = record { reads = stops_at state_kind (search rules) c.in_ok-form.ensures.form c.misplaced.ensures }
