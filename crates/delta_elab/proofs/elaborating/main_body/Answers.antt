-- The main program with its types is the one of the program.
use Rattle.std.proofs.Common.{◌≡◌, [], sym, ap, ◌∙◌, ◌++◌, length, subst}
use Rattle.delta_tree.specs.Tree.{function_of, program_of}
use Rattle.core_term.specs.CoreTerm.{core_body_of, body_places}
use Rattle.delta_meaning.specs.TypeNames.{TypeNames}
use Rattle.delta_meaning.specs.SourceBody.{SourceBody, body_meant, main_of, function_named, number_named}
use Rattle.delta_meaning.specs.NewNames.{new_in_body}
use Rattle.delta_meaning.specs.NodePlaces.{node_places}
use Rattle.delta_meaning.specs.Elaboration.{core_body}
use Rattle.delta_elab.specs.Numbering.{origins_of}
use Rattle.delta_elab.specs.Sources.{source_of, sources_of}
use Rattle.delta_elab.proofs.KnownAliases.{names_known-table}
use Rattle.delta_elab.proofs.elaborating.main_body.Goals as goal

pub returns-clause-body : goal.returns-clause-body
returns-clause-body c =
    let p = program_of c.args.p.now in
    let bs = sources_of c.args.functions.now in
    let main : TypeNames → SourceBody = λ names. record (body_meant names (function_of c.args.p.now.main)) { past = [] } in
    let is_main : source_of c.in_ok-main.main.value ≡ main_of p = c.in_ok-main.ensures ∙ ap main (sym (names_known-table c.args.types.now p.declarations c.requires)) in
    let P : SourceBody → Type 0 = λ b. core_body_of c.in_ok-core.core ≡ core_body (function_named bs) (number_named bs) b (length (origins_of c.args.origins.now.items)) in
    rw c.in_ok-new.ensures.ok (subst P is_main (cc c.in_ok-core.ensures.body))

pub returns-clause-places : goal.returns-clause-places
returns-clause-places c =
    let p = program_of c.args.p.now in
    let main : TypeNames → SourceBody = λ names. record (body_meant names (function_of c.args.p.now.main)) { past = [] } in
    let is_main : source_of c.in_ok-main.main.value ≡ main_of p = c.in_ok-main.ensures ∙ ap main (sym (names_known-table c.args.types.now p.declarations c.requires)) in
    let P : SourceBody → Type 0 = λ b. body_places c.in_ok-core.core ≡ node_places b.body in
    rw c.in_ok-new.ensures.ok (subst P is_main (cc c.in_ok-core.ensures.places))

pub returns-clause-next : goal.returns-clause-next
returns-clause-next c =
    let p = program_of c.args.p.now in
    let main : TypeNames → SourceBody = λ names. record (body_meant names (function_of c.args.p.now.main)) { past = [] } in
    let is_main : source_of c.in_ok-main.main.value ≡ main_of p = c.in_ok-main.ensures ∙ ap main (sym (names_known-table c.args.types.now p.declarations c.requires)) in
    let P : SourceBody → Type 0 = λ b. origins_of c.body.new.origins.items ≡ origins_of c.args.origins.now.items ++ new_in_body b in
    subst P is_main (cc c.in_ok-core.ensures.next)
