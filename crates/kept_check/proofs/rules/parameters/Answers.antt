-- One parameter more, and all of them.
use Rattle.std.proofs.Common.{◌∙◌, ◌∷◌, [], ap, map, refl}
use Rattle.std.proofs.lemmas.List.{map_push}
use Rattle.bunch.specs.Names.{number_of}
use Rattle.delta_state.specs.StateTree.{argument_names}
use Rattle.delta_keep.specs.KeptView.{arguments_from}
use Rattle.kept_check.proofs.NameLists.{next_found, all_found}
use Rattle.kept_check.proofs.rules.parameters.Goals as goal

pub loop-arg-preserved : goal.loop-arg-preserved
loop-arg-preserved c =
    next_found (λ l. argument_names (arguments_from l)) (λ a. a.name.0 ∷ []) c.args.args.now c.loop-arg.arg-index c.arg-item.result _ _ _ (λ y ys. refl) c.loop-arg-test.true c.arg-item.is
    (ap (map number_of) c.in_ok-push.ensures.items ∙ map_push number_of c.loop-arg.names.items c.arg-item.result.name) c.loop-arg.invariant

pub returns : goal.returns
returns c = all_found (λ l. argument_names (arguments_from l)) c.args.args.now c.loop-arg.arg-index _ _ refl c.loop-arg-test.false c.loop-arg.invariant
