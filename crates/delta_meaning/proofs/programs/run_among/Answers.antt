-- The place is that of the program's functions, and the parameters and the type are the main program's.
use Rattle.std.proofs.Common.{◌≡◌, ◌<◌, map, IfOk, IfErr, ap, sym, ◌∙◌, subst}
use Rattle.stream_type.specs.StreamType.{type_of}
use Rattle.stream_prefix.specs.Tree.{prefix_of}
use Rattle.bunch.specs.BunchTree.{tree_of}
use Rattle.delta_tree.specs.Tree.{expression_of, declaration_of, context_of, type_tree_of}
use Rattle.core_term.specs.Meaning.{horizon}
use Rattle.core_term.specs.Run.{Run}
use Rattle.delta_meaning.specs.TypeNames.{TypeNames, no_type_names, type_meant, params_meant}
use Rattle.delta_meaning.specs.KnownTypes.{names_known}
use Rattle.delta_meaning.specs.SourceBody.{functions_among, names_below_all}
use Rattle.delta_meaning.specs.Evaluated.{run_of}
use Rattle.delta_meaning.specs.declared.refusal.Stop.TheVariants.{Spent}
use Rattle.delta_meaning.specs.Functions.{body_of}
use Rattle.delta_meaning.proofs.Evaluations.{horizon_is}
use Rattle.delta_meaning.proofs.MainRuns.{same_program_runs}
use Rattle.delta_meaning.proofs.programs.run_among.Goals as goal

pub returns-clause-run : goal.returns-clause-run
returns-clause-run c =
    let p = c.args.p.now in
    let names = names_below_all no_type_names (map declaration_of p.decls.items) in
    let bunch : tree_of c.deref.result.now ≡ params_meant names (context_of p.main.ctx) =
    ap tree_of c.deref.ensures ∙ (c.in_ok-params.ensures ∙ ap (λ (n : TypeNames). params_meant n (context_of p.main.ctx)) c.requires.known) in
    let given : type_of c.deref-2.result.now ≡ type_meant names (type_tree_of p.main.result) =
    ap type_of c.deref-2.ensures ∙ (c.in_ok-ty.ensures ∙ ap (λ (n : TypeNames). type_meant n (type_tree_of p.main.result)) c.requires.known) in
    let whole = same_program_runs (map body_of c.args.functions.now) (functions_among no_type_names (map declaration_of p.decls.items)) 4611686018427387904 horizon (names_known c.args.known.now) names (expression_of p.main.body)
    (tree_of c.deref.result.now) (params_meant names (context_of p.main.ctx)) (type_of c.deref-2.result.now) (type_meant names (type_tree_of p.main.result)) (prefix_of c.args.input.now) c.requires.functions (sym horizon_is) c.requires.known bunch given in
    subst (λ (x : Run). IfOk c.body_run.result (λ r. run_of r ≡ x)) whole c.body_run.ensures.run

pub returns-clause-spent : goal.returns-clause-spent
returns-clause-spent c =
    let p = c.args.p.now in
    let names = names_below_all no_type_names (map declaration_of p.decls.items) in
    let bunch : tree_of c.deref.result.now ≡ params_meant names (context_of p.main.ctx) =
    ap tree_of c.deref.ensures ∙ (c.in_ok-params.ensures ∙ ap (λ (n : TypeNames). params_meant n (context_of p.main.ctx)) c.requires.known) in
    let given : type_of c.deref-2.result.now ≡ type_meant names (type_tree_of p.main.result) =
    ap type_of c.deref-2.ensures ∙ (c.in_ok-ty.ensures ∙ ap (λ (n : TypeNames). type_meant n (type_tree_of p.main.result)) c.requires.known) in
    let whole = same_program_runs (map body_of c.args.functions.now) (functions_among no_type_names (map declaration_of p.decls.items)) 4611686018427387904 horizon (names_known c.args.known.now) names (expression_of p.main.body)
    (tree_of c.deref.result.now) (params_meant names (context_of p.main.ctx)) (type_of c.deref-2.result.now) (type_meant names (type_tree_of p.main.result)) (prefix_of c.args.input.now) c.requires.functions (sym horizon_is) c.requires.known bunch given in
    subst (λ (x : Run). IfErr c.body_run.result (λ s. s ≡ Spent → c.args.left < x.calls)) whole c.body_run.ensures.spent
