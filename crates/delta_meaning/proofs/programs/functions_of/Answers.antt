-- Each declaration adds what it declares, and those that are left add the rest.
use Rattle.std.proofs.Common.{◌+◌, map, drop, refl, sym, ◌∙◌}
use Rattle.std.proofs.lemmas.List.{append-nil, drop_all}
use Rattle.std.proofs.lemmas.Result.{err_from_is_err_and}
use Rattle.delta_tree.specs.Tree.{declaration_of}
use Rattle.delta_meaning.specs.KnownTypes.{names_known}
use Rattle.delta_meaning.specs.Functions.{body_of}
use Rattle.delta_meaning.proofs.Declarations.{next_declaration, functions_so_far, names_so_far}
use Rattle.delta_meaning.proofs.programs.functions_of.Goals as goal

pub loop-decl-preserved : goal.loop-decl-preserved
loop-decl-preserved c =
    let decls = c.args.decls.now in
    let d = c.decl-item.result in
    let ks = names_known c.loop-decl.known.items in
    let ms = names_known c.add_declaration.new.known.items in
    let more = map declaration_of (drop (c.loop-decl.decl-index + 1) decls) in
    let next = next_declaration decls c.loop-decl.decl-index d c.loop-decl-test.true c.decl-item.is in
    record {
      functions = functions_so_far _ (map body_of c.loop-decl.functions.items) (map body_of c.add_declaration.new.functions.items) ks ms (declaration_of d) more (rw next at c.loop-decl.invariant.functions) c.in_ok-add_declaration.ensures.functions c.in_ok-add_declaration.ensures.known;
      known = names_so_far _ ks ms (declaration_of d) more (rw next at c.loop-decl.invariant.known) c.in_ok-add_declaration.ensures.known;
    }

pub loop-decl-init : goal.loop-decl-init
loop-decl-init c =
    let one = c.new-known.ensures.items in
    let two = c.new-functions.ensures.items in
    record { functions = rw (one, two) refl; known = rw one refl }

pub returns-in_err-add_declaration : goal.returns-in_err-add_declaration
returns-in_err-add_declaration c =
    let exit = err_from_is_err_and c.from_residual.result c.from_residual.ensures.1 in
    rw exit.1 (record { functions = tt; known = tt })

pub returns : goal.returns
returns c =
    let none = drop_all c.loop-decl.decl-index c.args.decls.now c.loop-decl-test.false in
    record {
      functions = sym (append-nil (map body_of c.loop-decl.functions.items)) ∙ (rw none at c.loop-decl.invariant.functions);
      known = rw none at c.loop-decl.invariant.known;
    }
