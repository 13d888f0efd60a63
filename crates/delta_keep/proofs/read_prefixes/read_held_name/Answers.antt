-- A name with its mark, and what is held of it.
use Rattle.std.proofs.Common.{[], ◌∷◌, append_assoc, drop}
use Rattle.std.proofs.lemmas.Result.{err_from_is_err_and}
use Rattle.kept_state.specs.KeptForm.{type_kind, prefix_kind, any, form}
use Rattle.kept_state.specs.KeptBytes.{short_bytes, type_bytes, prefix_bytes}
use Rattle.stream_prefix.specs.Tree.{prefix_of}
use Rattle.delta_keep.proofs.Pieces.{then, as_written, stops_first, stops_second}
use Rattle.stream_type.specs.StreamType.{type_of}
use Rattle.delta_keep.proofs.read_prefixes.read_held_name.Goals as goal

pub returns-in_err-name : goal.returns-in_err-name
returns-in_err-name c =
    let exit = err_from_is_err_and c.from_residual.result c.from_residual.ensures.1 in
    record { reads = rw (exit.1, exit.2) (stops_first (any 4 ∷ form type_kind ∷ []) ((form prefix_kind ∷ [])) (drop c.args.start c.args.bytes.now) c.in_err-name.field-0.0 c.in_err-name.ensures.reads) }

pub returns-in_err-prefix : goal.returns-in_err-prefix
returns-in_err-prefix c =
    let exit = err_from_is_err_and c.from_residual-in_err-prefix.result c.from_residual-in_err-prefix.ensures.1 in
    record { reads = rw (exit.1, exit.2) (stops_second ((form prefix_kind ∷ [])) c.in_err-prefix.field-0.0 c.in_ok-name.ensures.reads (c.in_err-prefix.ensures.reads)) }

pub returns : goal.returns
returns c = record { reads = as_written (append_assoc (short_bytes c.in_ok-name.name.0) (type_bytes (type_of c.in_ok-name.ty.value)) (prefix_bytes (prefix_of c.in_ok-prefix.prefix.value))) (λ s. s) (then c.in_ok-name.ensures.reads c.in_ok-prefix.ensures.reads) }
