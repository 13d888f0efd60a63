-- What the part was, and where it stops.
use Rattle.std.proofs.Common.{◌∷◌, sym}
use Rattle.kept_state.specs.KeptForm.{term_kind, node_parts}
use Rattle.delta_keep.specs.Written.{written_node}
use Rattle.delta_keep.specs.Reads.{FitsNode}
use Rattle.delta_keep.proofs.Pieces.{as_written, in_form, stops_in_form, boxed_read, in_node, stops_in_node, was_read, has_stopped}
use Rattle.delta_keep.proofs.terms_done.one_done.Goals as goal

pub returns-in-Ok : goal.returns-in-Ok
returns-in-Ok c bytes behind a h = boxed_read (λ x. x.0.value) (λ x. behind x.1) written_node FitsNode c.boxed.result (c.boxed.ensures.boxes behind) (in_node c.args.at (as_written (sym c.one_of-term.ensures.bytes) c.one_of-term.ensures.sizes (in_form term_kind c.args.n a (was_read c.in-Ok.is (λ x. written_node x.0.value) (λ x. behind x.1) (λ x. FitsNode x.0.value) h))))

pub returns-in-Err : goal.returns-in-Err
returns-in-Err c bytes behind a h = stops_in_node c.args.at (c.args.n ∷ bytes) c.in-Err.halt (stops_in_form term_kind c.args.n node_parts bytes c.in-Err.halt a (has_stopped node_parts bytes c.in-Err.is (λ x. written_node x.0.value) (λ x. behind x.1) (λ x. FitsNode x.0.value) h))
