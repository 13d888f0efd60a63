-- A number behind its form.
use Rattle.std.proofs.Common.{[], ◌∷◌, refl, drop}
use Rattle.kept_state.specs.KeptForm.{expr_kind, any}
use Rattle.kept_state.specs.KeptBytes.{expr_bytes}
use Rattle.kept_state.specs.KeptSizes.{FitsExpr}
use Rattle.hist_value.specs.HistExpr.{expr_of}
use Rattle.delta_keep.proofs.Pieces.{in_form, stops_in_form, boxed_read, handed_on}
use Rattle.delta_keep.proofs.exprs_done.read_literal.Goals as goal

pub returns-in-Ok : goal.returns-in-Ok
returns-in-Ok c = boxed_read (λ x. x.0.value) (λ x. drop x.1 c.args.bytes.now) (λ m. expr_bytes (expr_of m)) (λ m. FitsExpr (expr_of m)) c.boxed.result (c.boxed.ensures.boxes (λ n. drop n c.args.bytes.now)) (in_form expr_kind 1 refl (handed_on c.in-Ok.n c.in-Ok.ensures.reads))

pub returns-in-Err : goal.returns-in-Err
returns-in-Err c = stops_in_form expr_kind 1 (any 8 ∷ []) (drop c.args.start c.args.bytes.now) c.in-Err.halt refl c.in-Err.ensures.reads
