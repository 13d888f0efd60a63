-- What a program elaborates to has the program's types.
use Rattle.std.proofs.Common.{◌≡◌, ℕ, ◌+◌, true, length, refl, sym, ap, ◌∙◌, subst}
use Rattle.delta_tree.specs.SyntaxTree.{ProgramTree}
use Rattle.core_term.specs.CoreTerm.{CoreBody, fun_at, leaf_types}
use Rattle.delta_meaning.specs.SourceBody.{functions_of, main_of, function_named, number_named, is_function}
use Rattle.delta_meaning.specs.SourceMeaning.{source_past_names}
use Rattle.delta_meaning.specs.NewNames.{new_in_bodies}
use Rattle.delta_meaning.specs.Elaboration.{core_body}
use Rattle.delta_meaning.specs.Elaborated.{core_of_tree}
use Rattle.delta_meaning.specs.Laws.{HasTypesOf, ElaboratedHasTypes}
use Rattle.delta_meaning.proofs.Bodies.{leaf_types-numbered}
use Rattle.delta_meaning.proofs.Limits.{as_type-numbered}
use Rattle.delta_meaning.proofs.WholePrograms.{is_fine, core_in_place, length-core_bodies, place_below, named_in_place}

-- the function of a name's number is the core of the function of the name
record CoreOf (p : ProgramTree) (f : ℕ) : Type 0 where
  first : ℕ
  is : fun_at (core_of_tree p).funs (number_named (functions_of p) f) ≡ core_body (function_named (functions_of p)) (number_named (functions_of p)) (function_named (functions_of p) f) first

core_of_name : (p : ProgramTree) (f : ℕ) → is_function (functions_of p) f ≡ true → CoreOf p f
core_of_name p f h =
    let functions = function_named (functions_of p) in
    let number = number_named (functions_of p) in
    let at = core_in_place functions number (functions_of p) 0 (number f) (place_below p f h) in
    record { first = at.first; is = at.is ∙ ap (λ b. core_body functions number b at.first) (sym (named_in_place p f)) }

has_types : (p : ProgramTree) → HasTypesOf p (core_of_tree p)
has_types p = record {
  functions = length-core_bodies (function_named (functions_of p)) (number_named (functions_of p)) (functions_of p) 0;
  input = as_type-numbered (main_of p).params (length (new_in_bodies (functions_of p)) + 0);
  result = refl;
  parameters = λ f h.
      let o = core_of_name p f h in
      let b = function_named (functions_of p) f in
      ap (λ c. leaf_types (CoreBody.params c)) o.is ∙ leaf_types-numbered b.params (o.first + length (source_past_names b));
  results = λ f h. let o = core_of_name p f h in ap (λ c. CoreBody.result c) o.is;
}

pub elaborated_has_types : ElaboratedHasTypes
elaborated_has_types p c h = let e = is_fine p c h in subst (HasTypesOf p) e.is (has_types p)
