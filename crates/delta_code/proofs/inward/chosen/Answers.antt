-- A case on a sum is what its parts say.
use Rattle.std.proofs.Common.{◌∙◌, ap, sym}
use Rattle.std.proofs.lemmas.Result.{IfOk-weaker}
use Rattle.stream_type.specs.StreamType.{type_of}
use Rattle.template_state.specs.Readers.{op_term}
use Rattle.delta_code.proofs.inward.chosen.Goals as goal

pub returns-in-CaseSum-clause-run : goal.returns-in-CaseSum-clause-run
returns-in-CaseSum-clause-run c =
    IfOk-weaker c.chosen_side.result _ _ (λ m h code k es r. h code k es r (type_of c.in-CaseSum.field-1) (ap op_term (sym c.deref.ensures ∙ c.in-CaseSum.is))) c.chosen_side.ensures.run

pub returns-in-CaseSum-clause-rest : goal.returns-in-CaseSum-clause-rest
returns-in-CaseSum-clause-rest c =
    IfOk-weaker c.chosen_side.result _ _ (λ m h code k es r. h code k es r (type_of c.in-CaseSum.field-1) (ap op_term (sym c.deref.ensures ∙ c.in-CaseSum.is))) c.chosen_side.ensures.rest
