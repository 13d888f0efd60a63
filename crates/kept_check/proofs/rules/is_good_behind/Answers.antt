-- The value stands beside the context.
use Rattle.std.proofs.Common.{◌∙◌, ap}
use Rattle.stream_type.specs.StreamType.{type_of}
use Rattle.delta_check.specs.Scopes.{context_in, with_values}
use Rattle.delta_keep.specs.KeptView.{later_of}
use Rattle.kept_check.specs.Judging.{funs_of}
use Rattle.kept_check.proofs.Contexts.{value_is}
use Rattle.kept_check.proofs.StateForms.{value_told}
use Rattle.kept_check.proofs.rules.is_good_behind.Goals as goal

pub returns-in-Ok : goal.returns-in-Ok
returns-in-Ok c =
    let d = context_in c.args.scope.now in
    let t = type_of c.args.t.now in
    let known = ap (λ past. with_values past d) c.from_ref.ensures.value ∙ value_is c.args.x c.in-Ok.value t d c.in-Ok.ensures in
    value_told (funs_of c.args.judge.now) c.args.judge.now.depth d c.args.x.0 c.is_good-good.result (with_values c.from_ref.result.now d) t (later_of c.args.l.now) (type_of c.args.r.now) known c.is_good-good.ensures
