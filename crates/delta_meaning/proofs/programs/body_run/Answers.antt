-- The scope is that of the parameters.
use Rattle.std.proofs.Common.{◌≡◌, ◌<◌, map, IfOk, IfErr, refl, ap, ◌∙◌, subst}
use Rattle.stream_type.specs.StreamType.{type_of}
use Rattle.stream_prefix.specs.Tree.{prefix_of}
use Rattle.bunch.specs.BunchTree.{tree_of}
use Rattle.delta_tree.specs.Tree.{expression_of}
use Rattle.core_term.specs.Run.{Run}
use Rattle.core_term.specs.Params.{names_in, types_listed}
use Rattle.delta_meaning.specs.KnownTypes.{names_known}
use Rattle.delta_meaning.specs.Evaluated.{run_of}
use Rattle.delta_meaning.specs.declared.refusal.Stop.TheVariants.{Spent}
use Rattle.delta_meaning.specs.Functions.{body_of}
use Rattle.delta_meaning.proofs.MainRuns.{same_main_runs}
use Rattle.delta_meaning.proofs.programs.body_run.Goals as goal

pub returns-clause-run : goal.returns-clause-run
returns-clause-run c =
    let i = c.args.place.now in
    let whole = same_main_runs (map body_of i.functions.now) (map body_of i.functions.now) i.depth i.depth (names_known i.known.now) (names_known i.known.now) (expression_of c.args.body.now) (tree_of c.args.params.now)
    (type_of c.args.ty.now) (type_of c.args.ty.now) (names_in c.deref.result.now) (types_listed c.deref.result.now) (map prefix_of c.deref-2.result.now) (prefix_of c.args.input.now) refl refl refl refl
    (ap names_in c.deref.ensures.value ∙ c.in_ok-names.ensures.names) (ap types_listed c.deref.ensures.value ∙ c.in_ok-names.ensures.types) (ap (map prefix_of) c.deref-2.ensures.value ∙ c.in_ok-streams.ensures) in
    subst (λ (x : Run). IfOk c.evaluate_in_rounds.result (λ r. run_of r ≡ x)) whole c.evaluate_in_rounds.ensures.run

pub returns-clause-spent : goal.returns-clause-spent
returns-clause-spent c =
    let i = c.args.place.now in
    let whole = same_main_runs (map body_of i.functions.now) (map body_of i.functions.now) i.depth i.depth (names_known i.known.now) (names_known i.known.now) (expression_of c.args.body.now) (tree_of c.args.params.now)
    (type_of c.args.ty.now) (type_of c.args.ty.now) (names_in c.deref.result.now) (types_listed c.deref.result.now) (map prefix_of c.deref-2.result.now) (prefix_of c.args.input.now) refl refl refl refl
    (ap names_in c.deref.ensures.value ∙ c.in_ok-names.ensures.names) (ap types_listed c.deref.ensures.value ∙ c.in_ok-names.ensures.types) (ap (map prefix_of) c.deref-2.ensures.value ∙ c.in_ok-streams.ensures) in
    subst (λ (x : Run). IfErr c.evaluate_in_rounds.result (λ s. s ≡ Spent → c.args.left < x.calls)) whole c.evaluate_in_rounds.ensures.spent
