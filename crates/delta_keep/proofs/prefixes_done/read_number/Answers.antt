-- A number behind its form.
use Rattle.std.proofs.Common.{[], ◌∷◌, refl, drop}
use Rattle.kept_state.specs.KeptForm.{prefix_kind, any}
use Rattle.kept_state.specs.KeptSizes.{FitsPrefix}
use Rattle.stream_prefix.specs.Tree.{prefix_of}
use Rattle.kept_state.specs.KeptBytes.{prefix_bytes}
use Rattle.delta_keep.proofs.Pieces.{in_form, stops_in_form, boxed_read, handed_on}
use Rattle.delta_keep.proofs.prefixes_done.read_number.Goals as goal

pub returns-in-Ok : goal.returns-in-Ok
returns-in-Ok c = boxed_read (λ x. x.0.value) (λ x. drop x.1 c.args.bytes.now) (λ p. prefix_bytes (prefix_of p)) (λ p. FitsPrefix (prefix_of p)) c.boxed.result (c.boxed.ensures.boxes (λ n. drop n c.args.bytes.now)) (in_form prefix_kind 4 refl (handed_on c.in-Ok.n c.in-Ok.ensures.reads))

pub returns-in-Err : goal.returns-in-Err
returns-in-Err c = stops_in_form prefix_kind 4 (any 8 ∷ []) (drop c.args.start c.args.bytes.now) c.in-Err.halt refl c.in-Err.ensures.reads
