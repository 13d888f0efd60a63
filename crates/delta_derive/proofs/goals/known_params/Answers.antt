-- Of two entries with one name the first parameter's stands last.
use Rattle.std.proofs.Common.{◌≡◌, ◌∙◌, ◌+◌, ◌∷◌, [], ◌++◌, take, ap, map}
use Rattle.std.proofs.lemmas.List.{take_all}
use Rattle.stream_type.specs.StreamType.{type_of}
use Rattle.hist_value.specs.HistType.{hist_type_of, past}
use Rattle.hist_value.specs.Environment.{types_of}
use Rattle.delta_derive.proofs.Fronts.{entry_of, param_of, params-next, known_reversed}
use Rattle.delta_derive.proofs.HandedOn.{there}
use Rattle.delta_derive.proofs.goals.known_params.Goals as goal

pub loop-param-preserved : goal.loop-param-preserved
loop-param-preserved c =
    there c.past.result (λ t. hist_type_of t ≡ past (type_of c.param-item.result.1)) (λ t. c.put_entry.new.known.items ≡ c.loop-param.known.items ++ (c.param-item.result.0, t) ∷ [])
    (map entry_of c.put_entry.new.known.items ≡ map param_of (take (c.loop-param.param-index + 1) c.args.params.now)) c.past.ensures c.in-Ok.ensures
    (λ t same is. ap (map entry_of) is ∙ params-next c.args.params.now c.loop-param.param-index c.param-item.result c.loop-param.known.items t c.loop-param-test.true c.param-item.is same c.loop-param.invariant)

pub returns : goal.returns
returns c =
    ap types_of c.reverse.ensures.items
    ∙ known_reversed c.args.params.now c.loop-param.known.items (c.loop-param.invariant ∙ ap (map param_of) (take_all c.loop-param.param-index c.args.params.now c.loop-param-test.false))
