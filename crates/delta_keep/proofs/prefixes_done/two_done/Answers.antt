-- What was read, and where it stops.
use Rattle.std.proofs.Common.{[], ◌∷◌, ◌++◌, sym}
use Rattle.kept_state.specs.KeptForm.{prefix_kind, form}
use Rattle.kept_state.specs.KeptSizes.{FitsPrefix}
use Rattle.stream_prefix.specs.Tree.{prefix_of}
use Rattle.kept_state.specs.KeptBytes.{prefix_bytes}
use Rattle.delta_keep.proofs.Pieces.{as_written, in_form, stops_in_form, boxed_read, was_read, has_stopped}
use Rattle.delta_keep.proofs.prefixes_done.two_done.Goals as goal

pub returns-in-Ok : goal.returns-in-Ok
returns-in-Ok c bytes behind a h = boxed_read (λ x. x.0.value) (λ x. behind x.1) (λ p. prefix_bytes (prefix_of p)) (λ p. FitsPrefix (prefix_of p)) c.boxed.result (c.boxed.ensures.boxes behind) (as_written (sym c.two_of.ensures.bytes) c.two_of.ensures.sizes (in_form prefix_kind c.args.n a (was_read c.in-Ok.is (λ x. prefix_bytes (prefix_of x.0.value) ++ prefix_bytes (prefix_of x.1.value)) (λ x. behind x.2) (λ x. FitsPrefix (prefix_of x.0.value) × FitsPrefix (prefix_of x.1.value)) h)))

pub returns-in-Err : goal.returns-in-Err
returns-in-Err c bytes behind a h = stops_in_form prefix_kind c.args.n (form prefix_kind ∷ form prefix_kind ∷ []) bytes c.in-Err.halt a (has_stopped (form prefix_kind ∷ form prefix_kind ∷ []) bytes c.in-Err.is (λ x. prefix_bytes (prefix_of x.0.value) ++ prefix_bytes (prefix_of x.1.value)) (λ x. behind x.2) (λ x. FitsPrefix (prefix_of x.0.value) × FitsPrefix (prefix_of x.1.value)) h)
