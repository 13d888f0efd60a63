-- A node, its values and its depth.
use Rattle.std.proofs.Common.{[], ◌∷◌, ◌++◌, refl, drop}
use Rattle.std.proofs.lemmas.Result.{err_from_is_err_and}
use Rattle.kept_state.specs.KeptForm.{known_item, any, list_part, node_parts}
use Rattle.kept_state.specs.KeptSizes.{FitsLater}
use Rattle.delta_keep.specs.KeptView.{later_of}
use Rattle.delta_keep.specs.Written.{written_later}
use Rattle.delta_keep.proofs.Pieces.{then, as_written, stops_first, stops_second, boxed_read, flat_later}
use Rattle.delta_keep.proofs.read_states.read_later.Goals as goal

pub returns-in_err-code : goal.returns-in_err-code
returns-in_err-code c =
    let exit = err_from_is_err_and c.from_residual.result c.from_residual.ensures.1 in
    record { reads = rw (exit.1, exit.2) (stops_first node_parts ((list_part known_item ∷ []) ++ (any 8 ∷ [])) (drop c.args.start c.args.bytes.now) c.in_err-code.field-0.0 c.in_err-code.ensures.reads) }

pub returns-in_err-past : goal.returns-in_err-past
returns-in_err-past c =
    let exit = err_from_is_err_and c.from_residual-in_err-past.result c.from_residual-in_err-past.ensures.1 in
    record { reads = rw (exit.1, exit.2) (stops_second ((list_part known_item ∷ []) ++ (any 8 ∷ [])) c.in_err-past.field-0.0 c.in_ok-code.ensures.reads (stops_first (list_part known_item ∷ []) ((any 8 ∷ [])) (drop c.in_ok-code.next c.args.bytes.now) c.in_err-past.field-0.0 c.in_err-past.ensures.reads)) }

pub returns-in_err-depth : goal.returns-in_err-depth
returns-in_err-depth c =
    let exit = err_from_is_err_and c.from_residual-in_err-depth.result c.from_residual-in_err-depth.ensures.1 in
    record { reads = rw (exit.1, exit.2) (stops_second ((list_part known_item ∷ []) ++ (any 8 ∷ [])) c.in_err-depth.field-0.0 c.in_ok-code.ensures.reads (stops_second ((any 8 ∷ [])) c.in_err-depth.field-0.0 c.in_ok-past.ensures.reads (c.in_err-depth.ensures.reads))) }

pub returns : goal.returns
returns c = record { reads = boxed_read (λ x. x.0.value) (λ x. drop x.1 c.args.bytes.now) written_later (λ l. FitsLater (later_of l)) c.boxed.result (c.boxed.ensures.boxes (λ n. drop n c.args.bytes.now)) (as_written refl flat_later (then c.in_ok-code.ensures.reads (then c.in_ok-past.ensures.reads c.in_ok-depth.ensures.reads))) }
