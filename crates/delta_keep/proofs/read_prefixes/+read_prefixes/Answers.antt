-- Prefixes by their forms.
use Rattle.std.proofs.Common.{◌≡◌, [], ◌∷◌, sym, refl, drop, rules}
use Rattle.std.proofs.lemmas.Result.{err_from_is_err_and}
use Rattle.kept_state.specs.KeptForm.{prefix_kind, end_kind, prefix_item, form, list_part}
use Rattle.kept_state.specs.KeptBytes.{prefix_bytes, rest_bytes}
use Rattle.kept_state.specs.KeptSizes.{FitsPrefix}
use Rattle.stream_prefix.specs.Tree.{prefix_of, end_of}
use Rattle.delta_keep.proofs.Trees.{star_bytes}
use Rattle.delta_keep.proofs.Sizes.{star_fits}
use Rattle.delta_keep.proofs.Pieces.{then, as_written, stops_first, stops_second, in_form, plain, stops_in_form, stops_before, begins, boxed_read}
use Rattle.std.proofs.Common.{◌<◌, arith}
use Rattle.delta_keep.proofs.ReadLists.{none_read, list_pushed, list_ended, count_stops, list_read}
use Rattle.delta_keep.proofs.Placing.{stops_at}
use Rattle.delta_keep.proofs.read_prefixes.+read_prefixes.Goals as goal

pub two_prefixes-returns-in_err-first : goal.two_prefixes-returns-in_err-first
two_prefixes-returns-in_err-first t c =
    let exit = err_from_is_err_and c.from_residual.result c.from_residual.ensures.1 in
    record { reads = rw (exit.1, exit.2) (stops_first (form prefix_kind ∷ []) ((form prefix_kind ∷ [])) (drop c.args.start c.args.bytes.now) c.in_err-first.field-0.0 c.in_err-first.ensures.reads) }

pub two_prefixes-returns-in_err-second : goal.two_prefixes-returns-in_err-second
two_prefixes-returns-in_err-second t c =
    let exit = err_from_is_err_and c.from_residual-in_err-second.result c.from_residual-in_err-second.ensures.1 in
    record { reads = rw (exit.1, exit.2) (stops_second ((form prefix_kind ∷ [])) c.in_err-second.field-0.0 c.in_ok-first.ensures.reads (c.in_err-second.ensures.reads)) }

pub two_prefixes-returns : goal.two_prefixes-returns
two_prefixes-returns t c = record { reads = (then c.in_ok-first.ensures.reads c.in_ok-second.ensures.reads) }

pub read_prefix-returns-in_err-form : goal.read_prefix-returns-in_err-form
read_prefix-returns-in_err-form t c =
    let exit = err_from_is_err_and c.from_residual.result c.from_residual.ensures.1 in
    record { reads = rw (exit.1, exit.2) (stops_before prefix_kind (drop c.args.start c.args.bytes.now) c.in_err-form.field-0.0 c.in_err-form.ensures.none) }

pub read_prefix-returns-in-4 : goal.read_prefix-returns-in-4
read_prefix-returns-in-4 t c = record { reads = rw (begins 4 c.in_ok-form.ensures.form c.in-4.is) (c.read_number.ensures) }

pub read_prefix-returns-in-5 : goal.read_prefix-returns-in-5
read_prefix-returns-in-5 t c = record { reads = rw (begins 5 c.in_ok-form.ensures.form c.in-5.is) (c.two_done.ensures (drop c.in_ok-form.next c.args.bytes.now) (λ n. drop n c.args.bytes.now) refl c.two_prefixes.ensures.reads) }

pub read_prefix-returns-in-6 : goal.read_prefix-returns-in-6
read_prefix-returns-in-6 t c = record { reads = rw (begins 6 c.in_ok-form.ensures.form c.in-6.is) (c.one_done.ensures (drop c.in_ok-form.next c.args.bytes.now) (λ n. drop n c.args.bytes.now) refl c.read_prefix.ensures.reads) }

pub read_prefix-returns-in-7 : goal.read_prefix-returns-in-7
read_prefix-returns-in-7 t c = record { reads = rw (begins 7 c.in_ok-form.ensures.form c.in-7.is) (c.two_done-in-7.ensures (drop c.in_ok-form.next c.args.bytes.now) (λ n. drop n c.args.bytes.now) refl c.two_prefixes-in-7.ensures.reads) }

pub read_prefix-returns-in-9 : goal.read_prefix-returns-in-9
read_prefix-returns-in-9 t c = record { reads = rw (begins 9 c.in_ok-form.ensures.form c.in-9.is) (c.one_done-in-9.ensures (drop c.in_ok-form.next c.args.bytes.now) (λ n. drop n c.args.bytes.now) refl c.read_prefix-in-9.ensures.reads) }

pub read_prefix-returns-in-10 : goal.read_prefix-returns-in-10
read_prefix-returns-in-10 t c = record { reads = rw (begins 10 c.in_ok-form.ensures.form c.in-10.is) (c.one_done-in-10.ensures (drop c.in_ok-form.next c.args.bytes.now) (λ n. drop n c.args.bytes.now) refl c.read_prefix-in-10.ensures.reads) }

pub read_prefix-returns-in-0 : goal.read_prefix-returns-in-0
read_prefix-returns-in-0 t c = record { reads = rw (begins 0 c.in_ok-form.ensures.form c.in-0.is) (boxed_read (λ x. x.0.value) (λ x. drop x.1 c.args.bytes.now) (λ p. prefix_bytes (prefix_of p)) (λ p. FitsPrefix (prefix_of p)) c.boxed.result (c.boxed.ensures.boxes (λ n. drop n c.args.bytes.now)) (plain prefix_kind 0 (drop c.in_ok-form.next c.args.bytes.now) refl tt)) }

pub read_prefix-returns-in-1 : goal.read_prefix-returns-in-1
read_prefix-returns-in-1 t c = record { reads = rw (begins 1 c.in_ok-form.ensures.form c.in-1.is) (boxed_read (λ x. x.0.value) (λ x. drop x.1 c.args.bytes.now) (λ p. prefix_bytes (prefix_of p)) (λ p. FitsPrefix (prefix_of p)) c.boxed-in-1.result (c.boxed-in-1.ensures.boxes (λ n. drop n c.args.bytes.now)) (plain prefix_kind 1 (drop c.in_ok-form.next c.args.bytes.now) refl tt)) }

pub read_prefix-returns-in-2 : goal.read_prefix-returns-in-2
read_prefix-returns-in-2 t c = record { reads = rw (begins 2 c.in_ok-form.ensures.form c.in-2.is) (boxed_read (λ x. x.0.value) (λ x. drop x.1 c.args.bytes.now) (λ p. prefix_bytes (prefix_of p)) (λ p. FitsPrefix (prefix_of p)) c.boxed-in-2.result (c.boxed-in-2.ensures.boxes (λ n. drop n c.args.bytes.now)) (plain prefix_kind 2 (drop c.in_ok-form.next c.args.bytes.now) refl tt)) }

pub read_prefix-returns-in-3 : goal.read_prefix-returns-in-3
read_prefix-returns-in-3 t c = record { reads = rw (begins 3 c.in_ok-form.ensures.form c.in-3.is) (boxed_read (λ x. x.0.value) (λ x. drop x.1 c.args.bytes.now) (λ p. prefix_bytes (prefix_of p)) (λ p. FitsPrefix (prefix_of p)) c.boxed-in-3.result (c.boxed-in-3.ensures.boxes (λ n. drop n c.args.bytes.now)) (plain prefix_kind 3 (drop c.in_ok-form.next c.args.bytes.now) refl tt)) }

pub read_prefix-returns-in-8 : goal.read_prefix-returns-in-8
read_prefix-returns-in-8 t c = record { reads = rw (begins 8 c.in_ok-form.ensures.form c.in-8.is) (boxed_read (λ x. x.0.value) (λ x. drop x.1 c.args.bytes.now) (λ p. prefix_bytes (prefix_of p)) (λ p. FitsPrefix (prefix_of p)) c.boxed-in-8.result (c.boxed-in-8.ensures.boxes (λ n. drop n c.args.bytes.now)) (plain prefix_kind 8 (drop c.in_ok-form.next c.args.bytes.now) refl tt)) }

pub read_prefix-returns-in-11 : goal.read_prefix-returns-in-11
read_prefix-returns-in-11 t c = record { reads = rw (begins 11 c.in_ok-form.ensures.form c.in-11.is) (c.read_star.ensures.reads) }

pub read_star-returns-in_err-items : goal.read_star-returns-in_err-items
read_star-returns-in_err-items t c =
    let exit = err_from_is_err_and c.from_residual.result c.from_residual.ensures.1 in
    record { reads = rw (exit.1, exit.2) (stops_in_form prefix_kind 11 (list_part prefix_item ∷ form end_kind ∷ []) (drop c.args.start c.args.bytes.now) c.in_err-items.field-0.0 refl (stops_first (list_part prefix_item ∷ []) ((form end_kind ∷ [])) (drop c.args.start c.args.bytes.now) c.in_err-items.field-0.0 c.in_err-items.ensures.reads)) }

pub read_star-returns-in_err-end : goal.read_star-returns-in_err-end
read_star-returns-in_err-end t c =
    let exit = err_from_is_err_and c.from_residual-in_err-end.result c.from_residual-in_err-end.ensures.1 in
    record { reads = rw (exit.1, exit.2) (stops_in_form prefix_kind 11 (list_part prefix_item ∷ form end_kind ∷ []) (drop c.args.start c.args.bytes.now) c.in_err-end.field-0.0 refl (stops_second ((form end_kind ∷ [])) c.in_err-end.field-0.0 c.in_ok-items.ensures.reads (c.in_err-end.ensures.reads))) }

pub read_star-returns : goal.read_star-returns
read_star-returns t c = record { reads = boxed_read (λ x. x.0.value) (λ x. drop x.1 c.args.bytes.now) (λ p. prefix_bytes (prefix_of p)) (λ p. FitsPrefix (prefix_of p)) c.boxed.result (c.boxed.ensures.boxes (λ n. drop n c.args.bytes.now)) (rw c.into_inner-end.ensures (as_written (sym (star_bytes c.in_ok-items.items c.in_ok-end.end.value)) (star_fits c.in_ok-items.items c.in_ok-end.end.value) (in_form prefix_kind 11 refl (then c.in_ok-items.ensures.reads c.in_ok-end.ensures.reads)))) }

pub read_items-returns-in_err-count : goal.read_items-returns-in_err-count
read_items-returns-in_err-count t c =
    let exit = err_from_is_err_and c.from_residual.result c.from_residual.ensures.1 in
    record { reads = rw (exit.1, exit.2) (count_stops prefix_item (drop c.args.start c.args.bytes.now) c.in_err-count.field-0.0 c.in_err-count.ensures.reads) }

pub read_items-returns-in-Err : goal.read_items-returns-in-Err
read_items-returns-in-Err t c =
    let lt : c.items.counter < c.in_ok-count.count = omega arith in
    record { reads = list_ended prefix_item c.pushed.new.items.items c.read_prefix.result c.in-Err.halt (λ x. x.0.value) (λ x. drop x.1 c.args.bytes.now) (λ n. drop n c.args.bytes.now) c.in_ok-count.ensures.reads c.items.invariant lt (c.in-Err.ensures (λ n. drop n c.args.bytes.now)) c.read_prefix.ensures.reads }

pub read_items-items-init : goal.read_items-items-init
read_items-items-init t c = none_read _ _ _ _ c.in_ok-count.count (drop c.in_ok-count.next c.args.bytes.now) c.new-items.result.items c.new-items.ensures.items

pub read_items-items-preserved : goal.read_items-items-preserved
read_items-items-preserved t c =
    let lt : c.items.counter < c.in_ok-count.count = omega arith in
    list_pushed c.read_prefix.result c.in-Ok.behind (λ x. x.0.value) (λ x. drop x.1 c.args.bytes.now) (λ n. drop n c.args.bytes.now) c.items.invariant lt (c.in-Ok.ensures (λ n. drop n c.args.bytes.now)) c.read_prefix.ensures.reads

pub read_items-returns : goal.read_items-returns
read_items-returns t c =
    let all : c.items.counter ≡ c.in_ok-count.count = omega arith in
    record { reads = list_read c.in_ok-count.ensures.reads c.items.invariant all }

pub read_end-returns-in_err-form : goal.read_end-returns-in_err-form
read_end-returns-in_err-form t c =
    let exit = err_from_is_err_and c.from_residual.result c.from_residual.ensures.1 in
    record { reads = rw (exit.1, exit.2) (stops_before end_kind (drop c.args.start c.args.bytes.now) c.in_err-form.field-0.0 c.in_err-form.ensures.none) }

pub read_end-returns-in-0 : goal.read_end-returns-in-0
read_end-returns-in-0 t c = record { reads = rw (begins 0 c.in_ok-form.ensures.form c.in-0.is) (boxed_read (λ x. x.0.value) (λ x. drop x.1 c.args.bytes.now) (λ e. rest_bytes (end_of e)) (λ e. FitsPrefix (end_of e)) c.boxed.result (c.boxed.ensures.boxes (λ n. drop n c.args.bytes.now)) (plain end_kind 0 (drop c.in_ok-form.next c.args.bytes.now) refl tt)) }

pub read_end-returns-in-1 : goal.read_end-returns-in-1
read_end-returns-in-1 t c = record { reads = rw (begins 1 c.in_ok-form.ensures.form c.in-1.is) (boxed_read (λ x. x.0.value) (λ x. drop x.1 c.args.bytes.now) (λ e. rest_bytes (end_of e)) (λ e. FitsPrefix (end_of e)) c.boxed-in-1.result (c.boxed-in-1.ensures.boxes (λ n. drop n c.args.bytes.now)) (plain end_kind 1 (drop c.in_ok-form.next c.args.bytes.now) refl tt)) }

pub read_end-returns-in_err-p-in-2 : goal.read_end-returns-in_err-p-in-2
read_end-returns-in_err-p-in-2 t c =
    let exit = err_from_is_err_and c.from_residual-in_err-p-in-2.result c.from_residual-in_err-p-in-2.ensures.1 in
    record { reads = rw (begins 2 c.in_ok-form.ensures.form c.in-2.is, exit.1, exit.2) (stops_in_form end_kind 2 ((form prefix_kind ∷ [])) (drop c.in_ok-form.next c.args.bytes.now) c.in_err-p-in-2.field-0.0 refl (c.in_err-p-in-2.ensures.reads)) }

pub read_end-returns-in_ok-p-in-2 : goal.read_end-returns-in_ok-p-in-2
read_end-returns-in_ok-p-in-2 t c = record { reads = rw (begins 2 c.in_ok-form.ensures.form c.in-2.is) (boxed_read (λ x. x.0.value) (λ x. drop x.1 c.args.bytes.now) (λ e. rest_bytes (end_of e)) (λ e. FitsPrefix (end_of e)) c.boxed-in-2.result (c.boxed-in-2.ensures.boxes (λ n. drop n c.args.bytes.now)) (in_form end_kind 2 refl c.in_ok-p-in-2.ensures.reads)) }

pub read_prefix-returns-in_default : goal.read_prefix-returns-in_default
read_prefix-returns-in_default t c = record { reads = stops_at prefix_kind (search rules) c.in_ok-form.ensures.form c.misplaced.ensures }

pub read_end-returns-in_default : goal.read_end-returns-in_default
read_end-returns-in_default t c = record { reads = stops_at end_kind (search rules) c.in_ok-form.ensures.form c.misplaced.ensures }
