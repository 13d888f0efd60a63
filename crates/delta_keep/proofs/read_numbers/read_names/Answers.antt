-- Three in turn.
use Rattle.std.proofs.Common.{[], ◌∷◌, ◌++◌, refl, drop}
use Rattle.std.proofs.lemmas.Result.{err_from_is_err_and}
use Rattle.kept_state.specs.KeptForm.{any}
use Rattle.delta_keep.proofs.Pieces.{then, as_written, stops_first, stops_second, flat_3}
use Rattle.delta_keep.proofs.read_numbers.read_names.Goals as goal

pub returns-in_err-x : goal.returns-in_err-x
returns-in_err-x c =
    let exit = err_from_is_err_and c.from_residual.result c.from_residual.ensures.1 in
    record { reads = rw (exit.1, exit.2) (stops_first (any 4 ∷ []) ((any 4 ∷ []) ++ (any 4 ∷ [])) (drop c.args.start c.args.bytes.now) c.in_err-x.field-0.0 c.in_err-x.ensures.reads) }

pub returns-in_err-y : goal.returns-in_err-y
returns-in_err-y c =
    let exit = err_from_is_err_and c.from_residual-in_err-y.result c.from_residual-in_err-y.ensures.1 in
    record { reads = rw (exit.1, exit.2) (stops_second ((any 4 ∷ []) ++ (any 4 ∷ [])) c.in_err-y.field-0.0 c.in_ok-x.ensures.reads (stops_first (any 4 ∷ []) ((any 4 ∷ [])) (drop c.in_ok-x.next c.args.bytes.now) c.in_err-y.field-0.0 c.in_err-y.ensures.reads)) }

pub returns-in_err-z : goal.returns-in_err-z
returns-in_err-z c =
    let exit = err_from_is_err_and c.from_residual-in_err-z.result c.from_residual-in_err-z.ensures.1 in
    record { reads = rw (exit.1, exit.2) (stops_second ((any 4 ∷ []) ++ (any 4 ∷ [])) c.in_err-z.field-0.0 c.in_ok-x.ensures.reads (stops_second ((any 4 ∷ [])) c.in_err-z.field-0.0 c.in_ok-y.ensures.reads (c.in_err-z.ensures.reads))) }

pub returns : goal.returns
returns c = record { reads = as_written refl flat_3 (then c.in_ok-x.ensures.reads (then c.in_ok-y.ensures.reads c.in_ok-z.ensures.reads)) }
