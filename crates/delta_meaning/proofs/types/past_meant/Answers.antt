-- No parameter yet, one more, and all of them.
use Rattle.std.proofs.Common.{List, map, ap, ◌∙◌, arith}
use Rattle.std.proofs.lemmas.List.{take_all}
use Rattle.std.proofs.lemmas.Result.{err_from_is_err_and}
use Rattle.stream_type.specs.declared.ty.Ty.{Ty}
use Rattle.bunch.specs.declared.name.Name.{Name}
use Rattle.core_term.specs.CoreTerm.{typed_names_of}
use Rattle.delta_tree.specs.declared.types.TyExp.{TyExp}
use Rattle.delta_tree.specs.Tree.{past_of}
use Rattle.delta_meaning.specs.TypeNames.{past_meant}
use Rattle.delta_meaning.specs.KnownTypes.{names_known}
use Rattle.std.proofs.lemmas.Grind.{common_steps}
use Rattle.delta_meaning.proofs.types.past_meant.Goals as goal

pub loop-param-preserved : goal.loop-param-preserved
loop-param-preserved c =
    grind (arith, common_steps)

pub loop-param-init : goal.loop-param-init
loop-param-init c = ap (λ (l : List (Name × Ty)). typed_names_of l) c.new-meant.ensures.items

pub returns : goal.returns
returns c =
    c.loop-param.invariant ∙ ap (λ (l : List (Name × TyExp)). past_meant (names_known c.args.known.now) (map past_of l)) (take_all c.loop-param.param-index c.args.params.now c.loop-param-test.false)

pub returns-in_err-ty : goal.returns-in_err-ty
returns-in_err-ty c =
    let exit = err_from_is_err_and c.from_residual.result c.from_residual.ensures.1 in
    rw exit.1 tt

pub returns-in_err-push : goal.returns-in_err-push
returns-in_err-push c =
    let exit = err_from_is_err_and c.from_residual-in_err-push.result c.from_residual-in_err-push.ensures.1 in
    rw exit.1 tt
