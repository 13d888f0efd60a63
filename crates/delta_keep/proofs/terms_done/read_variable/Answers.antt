-- A name behind its form.
use Rattle.std.proofs.Common.{[], ◌∷◌, refl, drop}
use Rattle.kept_state.specs.KeptForm.{term_kind, any}
use Rattle.delta_keep.specs.Written.{written_node}
use Rattle.delta_keep.specs.Reads.{FitsNode}
use Rattle.delta_keep.proofs.Pieces.{in_form, stops_in_form, boxed_read, in_node, stops_in_node}
use Rattle.delta_keep.proofs.terms_done.read_variable.Goals as goal

pub returns-in-Ok : goal.returns-in-Ok
returns-in-Ok c = boxed_read (λ x. x.0.value) (λ x. drop x.1 c.args.bytes.now) written_node FitsNode c.boxed.result (c.boxed.ensures.boxes (λ n. drop n c.args.bytes.now)) (in_node c.args.at (in_form term_kind 0 refl c.in-Ok.ensures.reads))

pub returns-in-Err : goal.returns-in-Err
returns-in-Err c = stops_in_node c.args.at (0 ∷ (drop c.args.start c.args.bytes.now)) c.in-Err.halt (stops_in_form term_kind 0 (any 4 ∷ []) (drop c.args.start c.args.bytes.now) c.in-Err.halt refl c.in-Err.ensures.reads)
