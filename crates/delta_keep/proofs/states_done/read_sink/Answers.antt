-- A finished state behind its form.
use Rattle.std.proofs.Common.{[], ◌∷◌, refl, drop}
use Rattle.kept_state.specs.KeptForm.{type_kind, state_kind, form}
use Rattle.kept_state.specs.KeptSizes.{FitsState}
use Rattle.delta_keep.specs.KeptView.{state_of}
use Rattle.delta_keep.specs.Written.{written_state}
use Rattle.delta_keep.proofs.Pieces.{in_form, stops_in_form, boxed_read}
use Rattle.delta_keep.proofs.states_done.read_sink.Goals as goal

pub returns-in-Ok : goal.returns-in-Ok
returns-in-Ok c = boxed_read (λ x. x.0.value) (λ x. drop x.1 c.args.bytes.now) written_state (λ s. FitsState (state_of s)) c.boxed.result (c.boxed.ensures.boxes (λ n. drop n c.args.bytes.now)) (in_form state_kind 0 refl c.in-Ok.ensures.reads)

pub returns-in-Err : goal.returns-in-Err
returns-in-Err c = stops_in_form state_kind 0 (form type_kind ∷ []) (drop c.args.start c.args.bytes.now) c.in-Err.halt refl c.in-Err.ensures.reads
