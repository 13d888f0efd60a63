-- What the core of the text's program gives, or how its run ended, is told of the text.
use Rattle.std.proofs.Common.{map}
use Rattle.std.specs.Prelude.{string_bytes}
use Rattle.core_term.specs.CoreTerm.{core_of}
use Rattle.delta_tree.specs.Tree.{program_of}
use Rattle.delta_elab.proofs.Whole.{elaborate-fits}
use Rattle.delta_end.specs.declared.end.End.{End}
use Rattle.commands.specs.Tables.{tables_in}
use Rattle.commands.proofs.ReadTables.{if_err_too}
use Rattle.commands.proofs.RunWords.{if_ok_too}
use Rattle.commands.proofs.Programs.{is_fed, is_told}
use Rattle.commands.proofs.feeding.text_fed.Goals as goal

pub returns-in-Ok-clause-fed : goal.returns-in-Ok-clause-fed
returns-in-Ok-clause-fed g c =
    let p = program_of c.in-Ok.accepted.program in
    let core = core_of c.in-Ok.accepted.checked in
    if_ok_too c.text_given-given.result _ _ (λ out given. (given.0, given.1, is_fed c.args.text.now p core c.in-Ok.ensures.accepted given.0 (string_bytes out) given.2)) c.text_given-given.ensures.text

pub returns-in-Ok-clause-ended : goal.returns-in-Ok-clause-ended
returns-in-Ok-clause-ended g c =
    let p = program_of c.in-Ok.accepted.program in
    let core = core_of c.in-Ok.accepted.checked in
    let names = map string_bytes c.args.names.now in
    if_err_too c.text_given-given.result _ _
    (λ (end : End) ends files tells. is_told c.args.text.now p core c.in-Ok.ensures.accepted c.args.schedule.now (tables_in files names) c.args.budget end (ends files tells))
    c.text_given-given.ensures.ended

pub text_given-given-requires-clause-fits : goal.text_given-given-requires-clause-fits
text_given-given-requires-clause-fits g c =
    elaborate-fits (program_of c.in-Ok.accepted.program) _ c.in-Ok.ensures.accepted.accepted.elaborated
