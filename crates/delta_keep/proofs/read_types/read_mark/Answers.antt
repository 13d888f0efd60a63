-- A mark has come or not, and no other byte tells one.
use Rattle.std.proofs.Common.{rules}
use Rattle.kept_state.specs.KeptForm.{bool_kind}
use Rattle.delta_keep.proofs.Placing.{stops_at}
use Rattle.delta_keep.proofs.read_types.read_mark.Goals as goal

pub returns-in_default : goal.returns-in_default
returns-in_default c = record { reads = stops_at bool_kind (search rules) c.in_ok-form.ensures.form c.misplaced.ensures }
