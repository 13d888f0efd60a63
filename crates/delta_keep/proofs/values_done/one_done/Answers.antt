-- What was read, and where it stops.
use Rattle.std.proofs.Common.{[], ◌∷◌, sym}
use Rattle.kept_state.specs.KeptForm.{value_kind, form}
use Rattle.kept_state.specs.KeptSizes.{FitsValue}
use Rattle.hist_value.specs.HistValue.{hist_value_of}
use Rattle.kept_state.specs.KeptBytes.{value_bytes}
use Rattle.delta_keep.proofs.Pieces.{as_written, in_form, stops_in_form, boxed_read, was_read, has_stopped}
use Rattle.delta_keep.proofs.values_done.one_done.Goals as goal

pub returns-in-Ok : goal.returns-in-Ok
returns-in-Ok c bytes behind a h = boxed_read (λ x. x.0.value) (λ x. behind x.1) (λ v. value_bytes (hist_value_of v)) (λ v. FitsValue (hist_value_of v)) c.boxed.result (c.boxed.ensures.boxes behind) (as_written (sym c.one_of.ensures.bytes) c.one_of.ensures.sizes (in_form value_kind c.args.n a (was_read c.in-Ok.is (λ x. value_bytes (hist_value_of x.0.value)) (λ x. behind x.1) (λ x. FitsValue (hist_value_of x.0.value)) h)))

pub returns-in-Err : goal.returns-in-Err
returns-in-Err c bytes behind a h = stops_in_form value_kind c.args.n (form value_kind ∷ []) bytes c.in-Err.halt a (has_stopped (form value_kind ∷ []) bytes c.in-Err.is (λ x. value_bytes (hist_value_of x.0.value)) (λ x. behind x.1) (λ x. FitsValue (hist_value_of x.0.value)) h)
