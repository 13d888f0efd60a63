use Rattle.std.proofs.Common.{◌∙◌, ◌++◌, ap, length, subst}
use Rattle.std.proofs.lemmas.Result.{IfOk-weaker}
use Rattle.kept_state.specs.KeptSizes.{FitsShort}
use Rattle.delta_keep.specs.Written.{written_kept}
use Rattle.delta_keep.proofs.PlacedBytes.{written_kept_is}
use Rattle.delta_keep.proofs.saving.bytes_of.Goals as goal

pub returns-clause-bytes : goal.returns-clause-bytes
returns-clause-bytes c =
    IfOk-weaker c.finish.result _ _
    (λ v e. e.0 ∙ (c.put_kept.ensures.puts.put e.1 ∙ (ap (λ bs. bs ++ written_kept c.args.k.now) c.new-out.ensures.0 ∙ written_kept_is c.args.k.now))) c.finish.ensures

pub returns-clause-sizes : goal.returns-clause-sizes
returns-clause-sizes c =
    IfOk-weaker c.finish.result _ _
    (λ v e few. c.put_kept.ensures.sizes (record { whole = e.1; few = subst (λ bs. FitsShort (length bs)) e.0 few })) c.finish.ensures
