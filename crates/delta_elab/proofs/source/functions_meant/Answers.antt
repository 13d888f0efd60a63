-- A declared type is the next of the table, and a declared function the next of the functions.
use Rattle.std.proofs.Common.{◌≡◌, ◌+◌, ◌++◌, [], ◌∷◌, map, drop, take, ap, sym, ◌∙◌, arith}
use Rattle.std.proofs.lemmas.Grind.{common_steps}
use Rattle.std.proofs.lemmas.List.{map-append}
use Rattle.delta_tree.specs.SyntaxTree.{alias_declared, function_declared}
use Rattle.delta_tree.specs.Tree.{declaration_of, alias_of, function_of}
use Rattle.core_term.specs.CoreTerm.{typed_names_of}
use Rattle.delta_meaning.specs.TypeNames.{no_type_names}
use Rattle.delta_meaning.specs.KnownTypes.{names_known}
use Rattle.delta_meaning.specs.SourceBody.{body_meant, functions_among}
use Rattle.delta_elab.specs.Aliases.{aliases_among}
use Rattle.delta_elab.specs.Sources.{source_of, sources_of}
use Rattle.delta_elab.proofs.NextItems.{map-next}
use Rattle.delta_elab.proofs.KnownAliases.{pass_alias, pass_function}
use Rattle.delta_elab.proofs.source.functions_meant.Goals as goal
use Rattle.delta_elab.proofs.source.functions_meant.Goals.{in-Alias, in-Fun+in_ok-function_meant-in-Fun+in_ok-push-in-Fun}

pub loop-decl-preserved : goal.loop-decl-preserved
loop-decl-preserved c =
    let ds = c.args.decls.now in
    let known = c.args.known.now in
    let above = c.loop-decl.above in
    let i = c.loop-decl.decl-index in
    let done = c.loop-decl.functions.items in
    let inv = c.loop-decl.invariant in
    let names = names_known (take above known) in
    let left = map declaration_of (drop (i + 1) ds) in
    let all = functions_among no_type_names (map declaration_of ds) in
    let next = map-next declaration_of ds i c.decl-item.result c.loop-decl-test.true c.decl-item.is in
    elim c.match-decl.branch [
      | in-Alias w ↦
          let a = alias_of w.in-Alias.field-0 in
          let here : map declaration_of (drop i ds) ≡ alias_declared a ∷ left = next ∙ ap (λ d. declaration_of d ∷ left) w.in-Alias.is in
          let p = pass_alias known above a left all (sources_of done)
          (inv.0 ∙ ap (λ l. sources_of done ++ functions_among names l) here) (sym (ap (aliases_among names) here) ∙ inv.1) in
          rw (w.functions-is, w.above-is) (p.0, p.1, omega (arith, inv.2), p.2)
      | in-Fun+in_ok-function_meant-in-Fun+in_ok-push-in-Fun w ↦
          let f = function_of w.in-Fun.f in
          let s = w.in_ok-function_meant-in-Fun.field-0 in
          let here : map declaration_of (drop i ds) ≡ function_declared f ∷ left = next ∙ ap (λ d. declaration_of d ∷ left) w.in-Fun.is in
          let made : source_of s ≡ body_meant names f = grind (arith, common_steps, w.in_ok-function_meant-in-Fun.ensures) in
          let p = pass_function names f left all (sources_of done) (inv.0 ∙ ap (λ l. sources_of done ++ functions_among names l) here) in
          let items : c.match-decl.functions.items ≡ done ++ s ∷ [] = ap (λ (v : _). v.items) w.functions-is ∙ w.in_ok-push-in-Fun.ensures.items in
          let sources : sources_of c.match-decl.functions.items ≡ sources_of done ++ body_meant names f ∷ [] =
          ap sources_of items ∙ (map-append source_of done (s ∷ []) ∙ ap (λ b. sources_of done ++ b ∷ []) made) in
          let rest : aliases_among names left ≡ typed_names_of (drop above known) = sym (ap (aliases_among names) here) ∙ inv.1 in
          rw (w.above-is, sources) (p, rest, omega (arith, inv.2), inv.3)
    ]
