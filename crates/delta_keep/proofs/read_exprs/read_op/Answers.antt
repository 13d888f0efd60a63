-- Each operation has its byte.
use Rattle.std.proofs.Common.{rules}
use Rattle.kept_state.specs.KeptForm.{op_kind}
use Rattle.delta_keep.proofs.Placing.{stops_at}
use Rattle.delta_keep.proofs.read_exprs.read_op.Goals as goal

pub returns-in-0 : goal.returns-in-0
returns-in-0 c = search rules

pub returns-in_default : goal.returns-in_default
returns-in_default c = record { reads = stops_at op_kind (search rules) c.in_ok-form.ensures.form c.misplaced.ensures }
