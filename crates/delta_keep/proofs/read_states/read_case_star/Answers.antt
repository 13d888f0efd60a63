-- A case on a star, part by part.
use Rattle.std.proofs.Common.{[], ◌∷◌, ◌++◌, refl, drop}
use Rattle.std.proofs.lemmas.Result.{err_from_is_err_and}
use Rattle.kept_state.specs.KeptForm.{type_kind, state_kind, held_item, any, form, list_part, later_parts}
use Rattle.kept_state.specs.KeptBytes.{short_bytes, list_bytes, type_bytes, held_name_bytes}
use Rattle.std.proofs.Common.{map}
use Rattle.kept_state.specs.KeptSizes.{FitsState}
use Rattle.stream_type.specs.StreamType.{type_of}
use Rattle.delta_keep.specs.KeptView.{held_of, state_of}
use Rattle.delta_keep.specs.Written.{written_state}
use Rattle.delta_keep.proofs.Pieces.{then, as_written, stops_first, stops_second, in_form, stops_in_form, boxed_read, grouped, flat_2_4}
use Rattle.delta_keep.proofs.read_states.read_case_star.Goals as goal

pub returns-in_err-z : goal.returns-in_err-z
returns-in_err-z c =
    let exit = err_from_is_err_and c.from_residual.result c.from_residual.ensures.1 in
    record { reads = rw (exit.1, exit.2) (stops_in_form state_kind 8 ((any 4 ∷ form type_kind ∷ list_part held_item ∷ []) ++ later_parts ++ (any 4 ∷ []) ++ (any 4 ∷ []) ++ later_parts) (drop c.args.start c.args.bytes.now) c.in_err-z.field-0.0 refl (stops_first (any 4 ∷ form type_kind ∷ list_part held_item ∷ []) (later_parts ++ (any 4 ∷ []) ++ (any 4 ∷ []) ++ later_parts) (drop c.args.start c.args.bytes.now) c.in_err-z.field-0.0 c.in_err-z.ensures.reads)) }

pub returns-in_err-l : goal.returns-in_err-l
returns-in_err-l c =
    let exit = err_from_is_err_and c.from_residual-in_err-l.result c.from_residual-in_err-l.ensures.1 in
    record { reads = rw (exit.1, exit.2) (stops_in_form state_kind 8 ((any 4 ∷ form type_kind ∷ list_part held_item ∷ []) ++ later_parts ++ (any 4 ∷ []) ++ (any 4 ∷ []) ++ later_parts) (drop c.args.start c.args.bytes.now) c.in_err-l.field-0.0 refl (stops_second (later_parts ++ (any 4 ∷ []) ++ (any 4 ∷ []) ++ later_parts) c.in_err-l.field-0.0 c.in_ok-z.ensures.reads (stops_first later_parts ((any 4 ∷ []) ++ (any 4 ∷ []) ++ later_parts) (drop c.in_ok-z.next c.args.bytes.now) c.in_err-l.field-0.0 c.in_err-l.ensures.reads))) }

pub returns-in_err-y : goal.returns-in_err-y
returns-in_err-y c =
    let exit = err_from_is_err_and c.from_residual-in_err-y.result c.from_residual-in_err-y.ensures.1 in
    record { reads = rw (exit.1, exit.2) (stops_in_form state_kind 8 ((any 4 ∷ form type_kind ∷ list_part held_item ∷ []) ++ later_parts ++ (any 4 ∷ []) ++ (any 4 ∷ []) ++ later_parts) (drop c.args.start c.args.bytes.now) c.in_err-y.field-0.0 refl (stops_second (later_parts ++ (any 4 ∷ []) ++ (any 4 ∷ []) ++ later_parts) c.in_err-y.field-0.0 c.in_ok-z.ensures.reads (stops_second ((any 4 ∷ []) ++ (any 4 ∷ []) ++ later_parts) c.in_err-y.field-0.0 c.in_ok-l.ensures.reads (stops_first (any 4 ∷ []) ((any 4 ∷ []) ++ later_parts) (drop c.in_ok-l.next c.args.bytes.now) c.in_err-y.field-0.0 c.in_err-y.ensures.reads)))) }

pub returns-in_err-ys : goal.returns-in_err-ys
returns-in_err-ys c =
    let exit = err_from_is_err_and c.from_residual-in_err-ys.result c.from_residual-in_err-ys.ensures.1 in
    record { reads = rw (exit.1, exit.2) (stops_in_form state_kind 8 ((any 4 ∷ form type_kind ∷ list_part held_item ∷ []) ++ later_parts ++ (any 4 ∷ []) ++ (any 4 ∷ []) ++ later_parts) (drop c.args.start c.args.bytes.now) c.in_err-ys.field-0.0 refl (stops_second (later_parts ++ (any 4 ∷ []) ++ (any 4 ∷ []) ++ later_parts) c.in_err-ys.field-0.0 c.in_ok-z.ensures.reads (stops_second ((any 4 ∷ []) ++ (any 4 ∷ []) ++ later_parts) c.in_err-ys.field-0.0 c.in_ok-l.ensures.reads (stops_second ((any 4 ∷ []) ++ later_parts) c.in_err-ys.field-0.0 c.in_ok-y.ensures.reads (stops_first (any 4 ∷ []) (later_parts) (drop c.in_ok-y.next c.args.bytes.now) c.in_err-ys.field-0.0 c.in_err-ys.ensures.reads))))) }

pub returns-in_err-m : goal.returns-in_err-m
returns-in_err-m c =
    let exit = err_from_is_err_and c.from_residual-in_err-m.result c.from_residual-in_err-m.ensures.1 in
    record { reads = rw (exit.1, exit.2) (stops_in_form state_kind 8 ((any 4 ∷ form type_kind ∷ list_part held_item ∷ []) ++ later_parts ++ (any 4 ∷ []) ++ (any 4 ∷ []) ++ later_parts) (drop c.args.start c.args.bytes.now) c.in_err-m.field-0.0 refl (stops_second (later_parts ++ (any 4 ∷ []) ++ (any 4 ∷ []) ++ later_parts) c.in_err-m.field-0.0 c.in_ok-z.ensures.reads (stops_second ((any 4 ∷ []) ++ (any 4 ∷ []) ++ later_parts) c.in_err-m.field-0.0 c.in_ok-l.ensures.reads (stops_second ((any 4 ∷ []) ++ later_parts) c.in_err-m.field-0.0 c.in_ok-y.ensures.reads (stops_second (later_parts) c.in_err-m.field-0.0 c.in_ok-ys.ensures.reads (c.in_err-m.ensures.reads)))))) }

pub returns : goal.returns
returns c = record { reads = boxed_read (λ x. x.0.value) (λ x. drop x.1 c.args.bytes.now) written_state (λ s. FitsState (state_of s)) c.boxed.result (c.boxed.ensures.boxes (λ n. drop n c.args.bytes.now)) (in_form state_kind 8 refl (as_written (grouped (short_bytes c.in_ok-z.z.0) (type_bytes (type_of c.in_ok-z.t.value)) (list_bytes held_name_bytes (map held_of c.in_ok-z.held.items)) _) flat_2_4 (then c.in_ok-z.ensures.reads (then c.in_ok-l.ensures.reads (then c.in_ok-y.ensures.reads (then c.in_ok-ys.ensures.reads c.in_ok-m.ensures.reads)))))) }
