-- What was read, and where it stops.
use Rattle.std.proofs.Common.{[], ◌∷◌, refl}
use Rattle.std.specs.Prelude.{⊤}
use Rattle.kept_state.specs.KeptForm.{type_kind, form}
use Rattle.stream_type.specs.StreamType.{type_of}
use Rattle.kept_state.specs.KeptBytes.{type_bytes}
use Rattle.delta_keep.proofs.Pieces.{in_form, stops_in_form, boxed_read, was_read, has_stopped}
use Rattle.delta_keep.proofs.types_done.one_done.Goals as goal

pub returns-in-Ok : goal.returns-in-Ok
returns-in-Ok c bytes behind h = boxed_read (λ x. x.0.value) (λ x. behind x.1) (λ t. type_bytes (type_of t)) (λ t. ⊤) c.boxed.result (c.boxed.ensures.boxes behind) (in_form type_kind 6 refl (was_read c.in-Ok.is (λ x. type_bytes (type_of x.0.value)) (λ x. behind x.1) (λ x. ⊤) h))

pub returns-in-Err : goal.returns-in-Err
returns-in-Err c bytes behind h = stops_in_form type_kind 6 (form type_kind ∷ []) bytes c.in-Err.halt refl (has_stopped (form type_kind ∷ []) bytes c.in-Err.is (λ x. type_bytes (type_of x.0.value)) (λ x. behind x.1) (λ x. ⊤) h)
