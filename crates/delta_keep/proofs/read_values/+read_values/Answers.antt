-- Values by their forms.
use Rattle.std.proofs.Common.{◌≡◌, [], ◌∷◌, sym, refl, drop, rules}
use Rattle.std.proofs.lemmas.Result.{err_from_is_err_and}
use Rattle.kept_state.specs.KeptForm.{value_kind, value_item, form, list_part}
use Rattle.kept_state.specs.KeptBytes.{value_bytes}
use Rattle.kept_state.specs.KeptSizes.{FitsValue}
use Rattle.hist_value.specs.HistValue.{hist_value_of}
use Rattle.delta_keep.proofs.Trees.{list_value_bytes}
use Rattle.delta_keep.proofs.Sizes.{list_fits}
use Rattle.delta_keep.proofs.Pieces.{then, as_written, stops_first, stops_second, in_form, plain, stops_in_form, stops_before, begins, boxed_read}
use Rattle.std.proofs.Common.{◌<◌, arith}
use Rattle.delta_keep.proofs.ReadLists.{none_read, list_pushed, list_ended, count_stops, list_read}
use Rattle.delta_keep.proofs.Placing.{stops_at}
use Rattle.delta_keep.proofs.read_values.+read_values.Goals as goal

pub two_values-returns-in_err-first : goal.two_values-returns-in_err-first
two_values-returns-in_err-first t c =
    let exit = err_from_is_err_and c.from_residual.result c.from_residual.ensures.1 in
    record { reads = rw (exit.1, exit.2) (stops_first (form value_kind ∷ []) ((form value_kind ∷ [])) (drop c.args.start c.args.bytes.now) c.in_err-first.field-0.0 c.in_err-first.ensures.reads) }

pub two_values-returns-in_err-second : goal.two_values-returns-in_err-second
two_values-returns-in_err-second t c =
    let exit = err_from_is_err_and c.from_residual-in_err-second.result c.from_residual-in_err-second.ensures.1 in
    record { reads = rw (exit.1, exit.2) (stops_second ((form value_kind ∷ [])) c.in_err-second.field-0.0 c.in_ok-first.ensures.reads (c.in_err-second.ensures.reads)) }

pub two_values-returns : goal.two_values-returns
two_values-returns t c = record { reads = (then c.in_ok-first.ensures.reads c.in_ok-second.ensures.reads) }

pub read_value-returns-in_err-form : goal.read_value-returns-in_err-form
read_value-returns-in_err-form t c =
    let exit = err_from_is_err_and c.from_residual.result c.from_residual.ensures.1 in
    record { reads = rw (exit.1, exit.2) (stops_before value_kind (drop c.args.start c.args.bytes.now) c.in_err-form.field-0.0 c.in_err-form.ensures.none) }

pub read_value-returns-in-1 : goal.read_value-returns-in-1
read_value-returns-in-1 t c = record { reads = rw (begins 1 c.in_ok-form.ensures.form c.in-1.is) (c.read_number.ensures) }

pub read_value-returns-in-2 : goal.read_value-returns-in-2
read_value-returns-in-2 t c = record { reads = rw (begins 2 c.in_ok-form.ensures.form c.in-2.is) (c.two_done.ensures (drop c.in_ok-form.next c.args.bytes.now) (λ n. drop n c.args.bytes.now) c.two_values.ensures.reads) }

pub read_value-returns-in-3 : goal.read_value-returns-in-3
read_value-returns-in-3 t c = record { reads = rw (begins 3 c.in_ok-form.ensures.form c.in-3.is) (c.one_done.ensures (drop c.in_ok-form.next c.args.bytes.now) (λ n. drop n c.args.bytes.now) refl c.read_value.ensures.reads) }

pub read_value-returns-in-4 : goal.read_value-returns-in-4
read_value-returns-in-4 t c = record { reads = rw (begins 4 c.in_ok-form.ensures.form c.in-4.is) (c.one_done-in-4.ensures (drop c.in_ok-form.next c.args.bytes.now) (λ n. drop n c.args.bytes.now) refl c.read_value-in-4.ensures.reads) }

pub read_value-returns-in-0 : goal.read_value-returns-in-0
read_value-returns-in-0 t c = record { reads = rw (begins 0 c.in_ok-form.ensures.form c.in-0.is) (boxed_read (λ x. x.0.value) (λ x. drop x.1 c.args.bytes.now) (λ v. value_bytes (hist_value_of v)) (λ v. FitsValue (hist_value_of v)) c.boxed.result (c.boxed.ensures.boxes (λ n. drop n c.args.bytes.now)) (plain value_kind 0 (drop c.in_ok-form.next c.args.bytes.now) refl tt)) }

pub read_value-returns-in-5 : goal.read_value-returns-in-5
read_value-returns-in-5 t c = record { reads = rw (begins 5 c.in_ok-form.ensures.form c.in-5.is) (c.read_list.ensures.reads) }

pub read_list-returns-in_err-items : goal.read_list-returns-in_err-items
read_list-returns-in_err-items t c =
    let exit = err_from_is_err_and c.from_residual.result c.from_residual.ensures.1 in
    record { reads = rw (exit.1, exit.2) (stops_in_form value_kind 5 (list_part value_item ∷ []) (drop c.args.start c.args.bytes.now) c.in_err-items.field-0.0 refl (c.in_err-items.ensures.reads)) }

pub read_list-returns : goal.read_list-returns
read_list-returns t c = record { reads = boxed_read (λ x. x.0.value) (λ x. drop x.1 c.args.bytes.now) (λ v. value_bytes (hist_value_of v)) (λ v. FitsValue (hist_value_of v)) c.boxed.result (c.boxed.ensures.boxes (λ n. drop n c.args.bytes.now)) (as_written (sym (list_value_bytes c.in_ok-items.items)) (list_fits c.in_ok-items.items) (in_form value_kind 5 refl c.in_ok-items.ensures.reads)) }

pub read_values-returns-in_err-count : goal.read_values-returns-in_err-count
read_values-returns-in_err-count t c =
    let exit = err_from_is_err_and c.from_residual.result c.from_residual.ensures.1 in
    record { reads = rw (exit.1, exit.2) (count_stops value_item (drop c.args.start c.args.bytes.now) c.in_err-count.field-0.0 c.in_err-count.ensures.reads) }

pub read_values-returns-in-Err : goal.read_values-returns-in-Err
read_values-returns-in-Err t c =
    let lt : c.items.counter < c.in_ok-count.count = omega arith in
    record { reads = list_ended value_item c.pushed.new.items.items c.read_value.result c.in-Err.halt (λ x. x.0.value) (λ x. drop x.1 c.args.bytes.now) (λ n. drop n c.args.bytes.now) c.in_ok-count.ensures.reads c.items.invariant lt (c.in-Err.ensures (λ n. drop n c.args.bytes.now)) c.read_value.ensures.reads }

pub read_values-items-init : goal.read_values-items-init
read_values-items-init t c = none_read _ _ _ _ c.in_ok-count.count (drop c.in_ok-count.next c.args.bytes.now) c.new-items.result.items c.new-items.ensures.items

pub read_values-items-preserved : goal.read_values-items-preserved
read_values-items-preserved t c =
    let lt : c.items.counter < c.in_ok-count.count = omega arith in
    list_pushed c.read_value.result c.in-Ok.behind (λ x. x.0.value) (λ x. drop x.1 c.args.bytes.now) (λ n. drop n c.args.bytes.now) c.items.invariant lt (c.in-Ok.ensures (λ n. drop n c.args.bytes.now)) c.read_value.ensures.reads

pub read_values-returns : goal.read_values-returns
read_values-returns t c =
    let all : c.items.counter ≡ c.in_ok-count.count = omega arith in
    record { reads = list_read c.in_ok-count.ensures.reads c.items.invariant all }

pub read_value-returns-in_default : goal.read_value-returns-in_default
read_value-returns-in_default t c = record { reads = stops_at value_kind (search rules) c.in_ok-form.ensures.form c.misplaced.ensures }
