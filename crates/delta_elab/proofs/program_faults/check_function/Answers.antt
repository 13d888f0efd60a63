-- The names that are bound in the body at first are those of the written parameters.
use Rattle.std.proofs.Common.{◌≡◌, None, map}
use Rattle.delta_tree.specs.Tree.{function_of, declaration_of}
use Rattle.delta_meaning.specs.KnownTypes.{names_known}
use Rattle.delta_meaning.specs.SourceBody.{body_meant}
use Rattle.delta_meaning.specs.Faults.{past_faults, faults_in, bound_at_first}
use Rattle.delta_elab.specs.Bounds.{is_declared}
use Rattle.delta_elab.specs.FirstFault.{said, to_say}
use Rattle.delta_elab.proofs.Firsts.{later}
use Rattle.delta_elab.proofs.Declared.{bound_at_first-meant}
use Rattle.delta_elab.proofs.program_faults.check_function.Goals as goal

pub returns : goal.returns
returns c =
    let is_there = is_declared (map declaration_of c.args.known.now.decls.now) in
    let names = names_known c.args.known.now.types.now in
    let f = function_of c.args.f.now in
    let past : None ≡ to_say (past_faults names f.past) = cc (c.in_ok-check_past.ensures, c.deref.ensures.value) in
    let body : said c.check_expression.result ≡ to_say (faults_in is_there names f.body (bound_at_first (body_meant names f))) =
    rw (bound_at_first-meant names f) (rw c.deref-2.ensures.value at c.check_expression.ensures) in
    later _ _ _ past (later _ _ _ c.in_ok-check_params.ensures (later _ _ _ c.in_ok-check_type.ensures body))
