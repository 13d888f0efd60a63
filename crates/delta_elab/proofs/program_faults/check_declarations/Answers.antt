-- A declaration is looked at before those that are left.
use Rattle.std.proofs.Common.{◌≡◌, ◌+◌, ◌++◌, [], ◌∷◌, List, map, drop, refl, ap, sym, ◌∙◌, subst}
use Rattle.std.proofs.lemmas.Result.{err_from_is_err_and}
use Rattle.stream_type.specs.declared.ty.Ty.{Ty}
use Rattle.bunch.specs.declared.name.Name.{Name}
use Rattle.delta_tree.specs.SyntaxTree.{Declaration, alias_declared, function_declared}
use Rattle.delta_tree.specs.Tree.{declaration_of, alias_of, function_of}
use Rattle.delta_meaning.specs.TypeNames.{no_type_names}
use Rattle.delta_meaning.specs.Faults.{declaration_faults}
use Rattle.delta_elab.specs.Aliases.{aliases_among}
use Rattle.delta_elab.specs.Bounds.{is_declared}
use Rattle.delta_elab.specs.FirstFault.{to_say}
use Rattle.delta_elab.proofs.NextItems.{map-next}
use Rattle.delta_elab.proofs.Declaring.{Left, left_after_alias, left_after_function, first_in_alias, first_in_function}
use Rattle.delta_elab.proofs.program_faults.check_declarations.Goals as goal
use Rattle.delta_elab.proofs.program_faults.check_declarations.Goals.{in-Alias+in_ok-check_type-in-Alias+in_ok-ty-in-Alias+in_ok-push-in-Alias, in-Fun+in_ok-check_function-in-Fun}

pub returns-in_err-check_type-in-Alias-clause-fault : goal.returns-in_err-check_type-in-Alias-clause-fault
returns-in_err-check_type-in-Alias-clause-fault c =
    let ds = c.args.decls.now in
    let i = c.loop-decl.decl-index in
    let there = is_declared (map declaration_of ds) in
    let whole = declaration_faults there no_type_names (map declaration_of ds) in
    let types = aliases_among no_type_names (map declaration_of ds) in
    let known = c.loop-decl.types.items in
    let a = alias_of c.in-Alias.a in
    let left = map declaration_of (drop (i + 1) ds) in
    let here : map declaration_of (drop i ds) ≡ alias_declared a ∷ left =
    map-next declaration_of ds i c.decl-item.result c.loop-decl-test.true c.decl-item.is ∙ ap (λ d. declaration_of d ∷ left) c.in-Alias.is in
    let now = subst (λ (l : List Declaration). Left there (to_say whole) types known l) here c.loop-decl.invariant in
    let exit = err_from_is_err_and c.from_residual.result c.from_residual.ensures.1 in
    rw (exit.1, exit.2) (first_in_alias there whole types known a left c.in_err-check_type-in-Alias.field-0.0 now
    (rw c.deref.ensures.value at c.in_err-check_type-in-Alias.ensures))

pub returns-in_err-check_function-in-Fun-clause-fault : goal.returns-in_err-check_function-in-Fun-clause-fault
returns-in_err-check_function-in-Fun-clause-fault c =
    let ds = c.args.decls.now in
    let i = c.loop-decl.decl-index in
    let there = is_declared (map declaration_of ds) in
    let whole = declaration_faults there no_type_names (map declaration_of ds) in
    let types = aliases_among no_type_names (map declaration_of ds) in
    let known = c.loop-decl.types.items in
    let f = function_of c.in-Fun.f in
    let left = map declaration_of (drop (i + 1) ds) in
    let here : map declaration_of (drop i ds) ≡ function_declared f ∷ left =
    map-next declaration_of ds i c.decl-item.result c.loop-decl-test.true c.decl-item.is ∙ ap (λ d. declaration_of d ∷ left) c.in-Fun.is in
    let now = subst (λ (l : List Declaration). Left there (to_say whole) types known l) here c.loop-decl.invariant in
    let exit = err_from_is_err_and c.from_residual-in_err-check_function-in-Fun.result c.from_residual-in_err-check_function-in-Fun.ensures.1 in
    rw (exit.1, exit.2) (first_in_function there whole types known f left c.in_err-check_function-in-Fun.field-0.0 now
    (rw c.deref-in-Fun.ensures.value at c.in_err-check_function-in-Fun.ensures))

pub loop-decl-preserved : goal.loop-decl-preserved
loop-decl-preserved c =
    let ds = c.args.decls.now in
    let i = c.loop-decl.decl-index in
    let there = is_declared (map declaration_of ds) in
    let said = to_say (declaration_faults there no_type_names (map declaration_of ds)) in
    let types = aliases_among no_type_names (map declaration_of ds) in
    let known = c.loop-decl.types.items in
    let left = map declaration_of (drop (i + 1) ds) in
    let next = map-next declaration_of ds i c.decl-item.result c.loop-decl-test.true c.decl-item.is in
    elim c.match-decl.branch [
      | in-Alias+in_ok-check_type-in-Alias+in_ok-ty-in-Alias+in_ok-push-in-Alias w ↦
          let a = alias_of w.in-Alias.a in
          let here : map declaration_of (drop i ds) ≡ alias_declared a ∷ left = next ∙ ap (λ d. declaration_of d ∷ left) w.in-Alias.is in
          let now = subst (λ (l : List Declaration). Left there said types known l) here c.loop-decl.invariant in
          let ty = w.in_ok-ty-in-Alias.ty in
          let items : c.match-decl.types.items ≡ known ++ (w.in-Alias.a.name, ty) ∷ [] = ap (λ (v : _). v.items) w.types-is ∙ w.in_ok-push-in-Alias.ensures.items in
          subst (λ (ks : List (Name × Ty)). Left there said types ks left) (sym items)
          (left_after_alias there said types known a left w.in-Alias.a.name ty refl (rw w.deref-in-Alias.ensures.value at w.in_ok-ty-in-Alias.ensures)
          (rw w.deref.ensures.value at w.in_ok-check_type-in-Alias.ensures) now)
      | in-Fun+in_ok-check_function-in-Fun w ↦
          let f = function_of w.in-Fun.f in
          let here : map declaration_of (drop i ds) ≡ function_declared f ∷ left = next ∙ ap (λ d. declaration_of d ∷ left) w.in-Fun.is in
          let now = subst (λ (l : List Declaration). Left there said types known l) here c.loop-decl.invariant in
          let items : c.match-decl.types.items ≡ known = ap (λ (v : _). v.items) w.types-is in
          subst (λ (ks : List (Name × Ty)). Left there said types ks left) (sym items)
          (left_after_function there said types known f left (rw w.deref-in-Fun.ensures.value at w.in_ok-check_function-in-Fun.ensures) now)
    ]
