-- What the names and the part were, and where they stop.
use Rattle.std.proofs.Common.{◌∷◌, ◌++◌, sym}
use Rattle.kept_state.specs.KeptForm.{term_kind, any, node_parts}
use Rattle.kept_state.specs.KeptBytes.{short_bytes}
use Rattle.kept_state.specs.KeptSizes.{FitsShort}
use Rattle.delta_keep.specs.Written.{written_node}
use Rattle.delta_keep.specs.Reads.{FitsNode}
use Rattle.delta_keep.proofs.Pieces.{as_written, in_form, stops_in_form, boxed_read, in_node, stops_in_node, was_read, has_stopped}
use Rattle.delta_keep.proofs.terms_done.names_done.Goals as goal

pub returns-in-Ok : goal.returns-in-Ok
returns-in-Ok c bytes behind a h = boxed_read (λ x. x.0.value) (λ x. behind x.1) written_node FitsNode c.boxed.result (c.boxed.ensures.boxes behind) (in_node c.args.at (as_written (sym c.names_of-term.ensures.bytes) c.names_of-term.ensures.sizes (in_form term_kind c.args.n a (was_read c.in-Ok.is (λ x. short_bytes x.0.0 ++ (short_bytes x.1.0 ++ (short_bytes x.2.0 ++ written_node x.3.value))) (λ x. behind x.4) (λ x. (FitsShort x.0.0 × FitsShort x.1.0 × FitsShort x.2.0) × FitsNode x.3.value) h))))

pub returns-in-Err : goal.returns-in-Err
returns-in-Err c bytes behind a h = stops_in_node c.args.at (c.args.n ∷ bytes) c.in-Err.halt (stops_in_form term_kind c.args.n (any 4 ∷ any 4 ∷ any 4 ∷ node_parts) bytes c.in-Err.halt a (has_stopped (any 4 ∷ any 4 ∷ any 4 ∷ node_parts) bytes c.in-Err.is (λ x. short_bytes x.0.0 ++ (short_bytes x.1.0 ++ (short_bytes x.2.0 ++ written_node x.3.value))) (λ x. behind x.4) (λ x. (FitsShort x.0.0 × FitsShort x.1.0 × FitsShort x.2.0) × FitsNode x.3.value) h))
