-- What both parts were, and where one stops.
use Rattle.std.proofs.Common.{[], ◌∷◌, ◌++◌, refl}
use Rattle.kept_state.specs.KeptForm.{state_kind, form}
use Rattle.kept_state.specs.KeptSizes.{FitsState}
use Rattle.delta_keep.specs.KeptView.{state_of}
use Rattle.delta_keep.specs.Written.{written_state}
use Rattle.delta_keep.proofs.Pieces.{in_form, stops_in_form, boxed_read, was_read, has_stopped}
use Rattle.delta_keep.proofs.states_done.par_done.Goals as goal

pub returns-in-Ok : goal.returns-in-Ok
returns-in-Ok c bytes behind h = boxed_read (λ x. x.0.value) (λ x. behind x.1) written_state (λ s. FitsState (state_of s)) c.boxed.result (c.boxed.ensures.boxes behind) (in_form state_kind 2 refl (was_read c.in-Ok.is (λ x. written_state x.0.value ++ written_state x.1.value) (λ x. behind x.2) (λ x. FitsState (state_of x.0.value) × FitsState (state_of x.1.value)) h))

pub returns-in-Err : goal.returns-in-Err
returns-in-Err c bytes behind h = stops_in_form state_kind 2 (form state_kind ∷ form state_kind ∷ []) bytes c.in-Err.halt refl (has_stopped (form state_kind ∷ form state_kind ∷ []) bytes c.in-Err.is (λ x. written_state x.0.value ++ written_state x.1.value) (λ x. behind x.2) (λ x. FitsState (state_of x.0.value) × FitsState (state_of x.1.value)) h)
