-- A historical expression, behind its form.
use Rattle.std.proofs.Common.{[], ◌∷◌, refl, drop}
use Rattle.std.proofs.lemmas.Result.{err_from_is_err_and}
use Rattle.kept_state.specs.KeptForm.{expr_kind, term_kind, form}
use Rattle.delta_keep.specs.Written.{written_node}
use Rattle.delta_keep.specs.Reads.{FitsNode}
use Rattle.delta_keep.proofs.Pieces.{in_form, stops_in_form, boxed_read, in_node, stops_in_node}
use Rattle.delta_keep.proofs.read_terms.read_history.Goals as goal

pub returns-in_err-m : goal.returns-in_err-m
returns-in_err-m c =
    let exit = err_from_is_err_and c.from_residual.result c.from_residual.ensures.1 in
    record { reads = rw (exit.1, exit.2) (stops_in_node c.args.at (3 ∷ (drop c.args.start c.args.bytes.now)) c.in_err-m.field-0.0 (stops_in_form term_kind 3 ((form expr_kind ∷ [])) (drop c.args.start c.args.bytes.now) c.in_err-m.field-0.0 refl (c.in_err-m.ensures.reads))) }

pub returns : goal.returns
returns c = record { reads = boxed_read (λ x. x.0.value) (λ x. drop x.1 c.args.bytes.now) written_node FitsNode c.boxed.result (c.boxed.ensures.boxes (λ n. drop n c.args.bytes.now)) (rw c.into_inner.ensures (in_node c.args.at (in_form term_kind 3 refl c.in_ok-m.ensures.reads))) }
