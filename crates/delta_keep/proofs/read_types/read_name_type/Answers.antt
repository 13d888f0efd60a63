-- A name, and a type behind it.
use Rattle.std.proofs.Common.{[], ◌∷◌, refl, drop}
use Rattle.std.proofs.lemmas.Result.{err_from_is_err_and}
use Rattle.kept_state.specs.KeptForm.{type_kind, any, form}
use Rattle.delta_keep.proofs.Pieces.{then, as_written, stops_first, stops_second, first_of}
use Rattle.delta_keep.proofs.read_types.read_name_type.Goals as goal

pub returns-in_err-x : goal.returns-in_err-x
returns-in_err-x c =
    let exit = err_from_is_err_and c.from_residual.result c.from_residual.ensures.1 in
    record { reads = rw (exit.1, exit.2) (stops_first (any 4 ∷ []) ((form type_kind ∷ [])) (drop c.args.start c.args.bytes.now) c.in_err-x.field-0.0 c.in_err-x.ensures.reads) }

pub returns-in_err-t : goal.returns-in_err-t
returns-in_err-t c =
    let exit = err_from_is_err_and c.from_residual-in_err-t.result c.from_residual-in_err-t.ensures.1 in
    record { reads = rw (exit.1, exit.2) (stops_second ((form type_kind ∷ [])) c.in_err-t.field-0.0 c.in_ok-x.ensures.reads (c.in_err-t.ensures.reads)) }

pub returns : goal.returns
returns c = record { reads = as_written refl first_of (then c.in_ok-x.ensures.reads c.in_ok-t.ensures.reads) }
