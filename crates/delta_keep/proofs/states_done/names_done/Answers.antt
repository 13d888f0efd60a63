-- What the names and the part were, and where they stop.
use Rattle.std.proofs.Common.{[], ◌∷◌, ◌++◌, sym}
use Rattle.kept_state.specs.KeptForm.{state_kind, any, form}
use Rattle.kept_state.specs.KeptSizes.{FitsShort, FitsState}
use Rattle.kept_state.specs.KeptBytes.{short_bytes}
use Rattle.delta_keep.specs.KeptView.{state_of}
use Rattle.delta_keep.specs.Written.{written_state}
use Rattle.delta_keep.proofs.Pieces.{as_written, in_form, stops_in_form, boxed_read, was_read, has_stopped}
use Rattle.delta_keep.proofs.states_done.names_done.Goals as goal

pub returns-in-Ok : goal.returns-in-Ok
returns-in-Ok c bytes behind a h = boxed_read (λ x. x.0.value) (λ x. behind x.1) written_state (λ s. FitsState (state_of s)) c.boxed.result (c.boxed.ensures.boxes behind) (as_written (sym c.names_of.ensures.bytes) c.names_of.ensures.sizes (in_form state_kind c.args.n a (was_read c.in-Ok.is (λ x. short_bytes x.0.0 ++ (short_bytes x.1.0 ++ (short_bytes x.2.0 ++ written_state x.3.value))) (λ x. behind x.4) (λ x. (FitsShort x.0.0 × FitsShort x.1.0 × FitsShort x.2.0) × FitsState (state_of x.3.value)) h)))

pub returns-in-Err : goal.returns-in-Err
returns-in-Err c bytes behind a h = stops_in_form state_kind c.args.n (any 4 ∷ any 4 ∷ any 4 ∷ form state_kind ∷ []) bytes c.in-Err.halt a (has_stopped (any 4 ∷ any 4 ∷ any 4 ∷ form state_kind ∷ []) bytes c.in-Err.is (λ x. short_bytes x.0.0 ++ (short_bytes x.1.0 ++ (short_bytes x.2.0 ++ written_state x.3.value))) (λ x. behind x.4) (λ x. (FitsShort x.0.0 × FitsShort x.1.0 × FitsShort x.2.0) × FitsState (state_of x.3.value)) h)
