-- A subject, the type of the result, and what is held.
use Rattle.std.proofs.Common.{[], ◌∷◌, append_assoc, drop}
use Rattle.std.proofs.lemmas.Result.{err_from_is_err_and}
use Rattle.kept_state.specs.KeptForm.{type_kind, held_item, any, form, list_part}
use Rattle.kept_state.specs.KeptBytes.{short_bytes, type_bytes}
use Rattle.stream_type.specs.StreamType.{type_of}
use Rattle.delta_keep.proofs.Pieces.{then, as_written, stops_first, stops_second}
use Rattle.delta_keep.proofs.read_states.read_holding.Goals as goal

pub returns-in_err-z : goal.returns-in_err-z
returns-in_err-z c =
    let exit = err_from_is_err_and c.from_residual.result c.from_residual.ensures.1 in
    record { reads = rw (exit.1, exit.2) (stops_first (any 4 ∷ form type_kind ∷ []) ((list_part held_item ∷ [])) (drop c.args.start c.args.bytes.now) c.in_err-z.field-0.0 c.in_err-z.ensures.reads) }

pub returns-in_err-held : goal.returns-in_err-held
returns-in_err-held c =
    let exit = err_from_is_err_and c.from_residual-in_err-held.result c.from_residual-in_err-held.ensures.1 in
    record { reads = rw (exit.1, exit.2) (stops_second ((list_part held_item ∷ [])) c.in_err-held.field-0.0 c.in_ok-z.ensures.reads (c.in_err-held.ensures.reads)) }

pub returns : goal.returns
returns c = record { reads = as_written (append_assoc (short_bytes c.in_ok-z.z.0) (type_bytes (type_of c.in_ok-z.t.value)) _) (λ s. s) (then c.in_ok-z.ensures.reads c.in_ok-held.ensures.reads) }
