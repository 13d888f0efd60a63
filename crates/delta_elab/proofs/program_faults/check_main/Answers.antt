-- The main program is a function without historical parameters.
use Rattle.std.proofs.Common.{◌≡◌, [], map}
use Rattle.delta_tree.specs.SyntaxTree.{WrittenFunction}
use Rattle.delta_tree.specs.Tree.{function_of, declaration_of}
use Rattle.delta_meaning.specs.KnownTypes.{names_known}
use Rattle.delta_meaning.specs.SourceBody.{body_meant}
use Rattle.delta_meaning.specs.Faults.{faults_in, bound_at_first}
use Rattle.delta_elab.specs.Bounds.{is_declared}
use Rattle.delta_elab.specs.FirstFault.{said, to_say}
use Rattle.delta_elab.proofs.Firsts.{later}
use Rattle.delta_elab.proofs.Declared.{bound_at_first-meant}
use Rattle.delta_elab.proofs.program_faults.check_main.Goals as goal

pub returns : goal.returns
returns c =
    let is_there = is_declared (map declaration_of c.args.known.now.decls.now) in
    let names = names_known c.args.known.now.types.now in
    let f : WrittenFunction = record (function_of c.args.f.now) { past = [] } in
    let body : said c.check_expression.result ≡ to_say (faults_in is_there names f.body (bound_at_first (body_meant names f))) =
    rw (bound_at_first-meant names f) c.check_expression.ensures in
    later _ _ _ c.in_ok-check_input.ensures (later _ _ _ c.in_ok-check_params.ensures (later _ _ _ c.in_ok-check_type.ensures body))
