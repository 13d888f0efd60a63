-- What the part was, and where it stops.
use Rattle.std.proofs.Common.{[], ◌∷◌, sym}
use Rattle.kept_state.specs.KeptForm.{expr_kind, form}
use Rattle.kept_state.specs.KeptBytes.{expr_bytes}
use Rattle.kept_state.specs.KeptSizes.{FitsExpr}
use Rattle.hist_value.specs.HistExpr.{expr_of}
use Rattle.delta_keep.proofs.Pieces.{as_written, in_form, stops_in_form, boxed_read, was_read, has_stopped}
use Rattle.delta_keep.proofs.exprs_done.one_done.Goals as goal

pub returns-in-Ok : goal.returns-in-Ok
returns-in-Ok c bytes behind a h = boxed_read (λ x. x.0.value) (λ x. behind x.1) (λ m. expr_bytes (expr_of m)) (λ m. FitsExpr (expr_of m)) c.boxed.result (c.boxed.ensures.boxes behind) (as_written (sym c.one_of.ensures.bytes) c.one_of.ensures.sizes (in_form expr_kind c.args.n a (was_read c.in-Ok.is (λ x. expr_bytes (expr_of x.0.value)) (λ x. behind x.1) (λ x. FitsExpr (expr_of x.0.value)) h)))

pub returns-in-Err : goal.returns-in-Err
returns-in-Err c bytes behind a h = stops_in_form expr_kind c.args.n (form expr_kind ∷ []) bytes c.in-Err.halt a (has_stopped (form expr_kind ∷ []) bytes c.in-Err.is (λ x. expr_bytes (expr_of x.0.value)) (λ x. behind x.1) (λ x. FitsExpr (expr_of x.0.value)) h)
