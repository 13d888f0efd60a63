-- Types by their forms.
use Rattle.std.proofs.Common.{[], ◌∷◌, refl, drop, rules}
use Rattle.std.proofs.lemmas.Result.{err_from_is_err_and}
use Rattle.std.specs.Prelude.{⊤}
use Rattle.kept_state.specs.KeptForm.{type_kind, form}
use Rattle.kept_state.specs.KeptBytes.{type_bytes}
use Rattle.stream_type.specs.StreamType.{type_of}
use Rattle.delta_keep.proofs.Pieces.{then, as_written, stops_first, stops_second, plain, stops_before, begins, boxed_read}
use Rattle.delta_keep.proofs.Placing.{stops_at}
use Rattle.delta_keep.proofs.read_types.+read_types.Goals as goal

pub two_types-returns-in_err-first : goal.two_types-returns-in_err-first
two_types-returns-in_err-first t c =
    let exit = err_from_is_err_and c.from_residual.result c.from_residual.ensures.1 in
    record { reads = rw (exit.1, exit.2) (stops_first (form type_kind ∷ []) ((form type_kind ∷ [])) (drop c.args.start c.args.bytes.now) c.in_err-first.field-0.0 c.in_err-first.ensures.reads) }

pub two_types-returns-in_err-second : goal.two_types-returns-in_err-second
two_types-returns-in_err-second t c =
    let exit = err_from_is_err_and c.from_residual-in_err-second.result c.from_residual-in_err-second.ensures.1 in
    record { reads = rw (exit.1, exit.2) (stops_second ((form type_kind ∷ [])) c.in_err-second.field-0.0 c.in_ok-first.ensures.reads (c.in_err-second.ensures.reads)) }

pub two_types-returns : goal.two_types-returns
two_types-returns t c = record { reads = as_written refl (λ s. tt) (then c.in_ok-first.ensures.reads c.in_ok-second.ensures.reads) }

pub read_type-returns-in_err-form : goal.read_type-returns-in_err-form
read_type-returns-in_err-form t c =
    let exit = err_from_is_err_and c.from_residual.result c.from_residual.ensures.1 in
    record { reads = rw (exit.1, exit.2) (stops_before type_kind (drop c.args.start c.args.bytes.now) c.in_err-form.field-0.0 c.in_err-form.ensures.none) }

pub read_type-returns-in-3 : goal.read_type-returns-in-3
read_type-returns-in-3 t c = record { reads = rw (begins 3 c.in_ok-form.ensures.form c.in-3.is) (c.two_done.ensures (drop c.in_ok-form.next c.args.bytes.now) (λ n. drop n c.args.bytes.now) refl c.two_types.ensures.reads) }

pub read_type-returns-in-4 : goal.read_type-returns-in-4
read_type-returns-in-4 t c = record { reads = rw (begins 4 c.in_ok-form.ensures.form c.in-4.is) (c.two_done-in-4.ensures (drop c.in_ok-form.next c.args.bytes.now) (λ n. drop n c.args.bytes.now) refl c.two_types-in-4.ensures.reads) }

pub read_type-returns-in-5 : goal.read_type-returns-in-5
read_type-returns-in-5 t c = record { reads = rw (begins 5 c.in_ok-form.ensures.form c.in-5.is) (c.two_done-in-5.ensures (drop c.in_ok-form.next c.args.bytes.now) (λ n. drop n c.args.bytes.now) refl c.two_types-in-5.ensures.reads) }

pub read_type-returns-in-6 : goal.read_type-returns-in-6
read_type-returns-in-6 t c = record { reads = rw (begins 6 c.in_ok-form.ensures.form c.in-6.is) (c.one_done.ensures (drop c.in_ok-form.next c.args.bytes.now) (λ n. drop n c.args.bytes.now) c.read_type.ensures.reads) }

pub read_type-returns-in-0 : goal.read_type-returns-in-0
read_type-returns-in-0 t c = record { reads = rw (begins 0 c.in_ok-form.ensures.form c.in-0.is) (boxed_read (λ x. x.0.value) (λ x. drop x.1 c.args.bytes.now) (λ t. type_bytes (type_of t)) (λ t. ⊤) c.boxed.result (c.boxed.ensures.boxes (λ n. drop n c.args.bytes.now)) (plain type_kind 0 (drop c.in_ok-form.next c.args.bytes.now) refl tt)) }

pub read_type-returns-in-1 : goal.read_type-returns-in-1
read_type-returns-in-1 t c = record { reads = rw (begins 1 c.in_ok-form.ensures.form c.in-1.is) (boxed_read (λ x. x.0.value) (λ x. drop x.1 c.args.bytes.now) (λ t. type_bytes (type_of t)) (λ t. ⊤) c.boxed-in-1.result (c.boxed-in-1.ensures.boxes (λ n. drop n c.args.bytes.now)) (plain type_kind 1 (drop c.in_ok-form.next c.args.bytes.now) refl tt)) }

pub read_type-returns-in-2 : goal.read_type-returns-in-2
read_type-returns-in-2 t c = record { reads = rw (begins 2 c.in_ok-form.ensures.form c.in-2.is) (boxed_read (λ x. x.0.value) (λ x. drop x.1 c.args.bytes.now) (λ t. type_bytes (type_of t)) (λ t. ⊤) c.boxed-in-2.result (c.boxed-in-2.ensures.boxes (λ n. drop n c.args.bytes.now)) (plain type_kind 2 (drop c.in_ok-form.next c.args.bytes.now) refl tt)) }

pub read_type-returns-in_default : goal.read_type-returns-in_default
read_type-returns-in_default t c = record { reads = stops_at type_kind (search rules) c.in_ok-form.ensures.form c.misplaced.ensures }
