-- What a program elaborates to, from what is wrong with it.
use Rattle.std.proofs.Common.{◌≡◌, ℕ, true, ◌&&◌, List, [], ◌++◌, length, Ok, sym, ap, ap₂, ◌∙◌}
use Rattle.std.proofs.lemmas.Bool.{le-leb}
use Rattle.delta_tree.specs.SyntaxTree.{ProgramTree}
use Rattle.core_term.specs.CoreTerm.{CoreBody, CoreProgram, fits_of}
use Rattle.delta_meaning.specs.Faults.{faults}
use Rattle.delta_meaning.specs.SourceBody.{SourceBody, functions_of, main_of, function_named, number_named}
use Rattle.delta_meaning.specs.NewNames.{Origin, new_in_body, new_in_bodies}
use Rattle.delta_meaning.specs.Elaboration.{core_body, core_bodies}
use Rattle.delta_meaning.specs.Elaborated.{core_of_tree, elaborate, texts_of, unless_wrong}
use Rattle.delta_meaning.proofs.Limits.{elaborated_is_within_limits}

module _ (p : ProgramTree) (bs : List SourceBody) (b : SourceBody) (first last : List Origin) where
  -- the core of a program from its parts
  pub core-made : (funs : List CoreBody) (main : CoreBody) (texts : List (List ℕ))
      → bs ≡ functions_of p → b ≡ main_of p → first ≡ new_in_bodies bs → last ≡ first ++ new_in_body b
      → funs ≡ core_bodies (function_named bs) (number_named bs) bs 0
      → main ≡ core_body (function_named bs) (number_named bs) b (length first)
      → texts ≡ texts_of p.names 0 last
      → (let made : CoreProgram = record { funs = funs; main = main; texts = texts } in made) ≡ core_of_tree p
  core-made funs main texts ebs eb efirst elast efuns emain etexts =
      let ps = functions_of p in
      let all : first ≡ new_in_bodies ps = efirst ∙ ap new_in_bodies ebs in
      let variables : last ≡ new_in_bodies ps ++ new_in_body (main_of p) = elast ∙ ap₂ (λ xs c. xs ++ new_in_body c) all eb in
      let funs-made : funs ≡ core_bodies (function_named ps) (number_named ps) ps 0 =
      efuns ∙ ap (λ cs. core_bodies (function_named cs) (number_named cs) cs 0) ebs in
      let main-made : main ≡ core_body (function_named ps) (number_named ps) (main_of p) (length (new_in_bodies ps)) =
      emain ∙ (ap (λ cs. core_body (function_named cs) (number_named cs) b (length first)) ebs
      ∙ ap₂ (λ c n. core_body (function_named ps) (number_named ps) c n) eb (ap length all)) in
      let texts-made : texts ≡ texts_of p.names 0 (new_in_bodies ps ++ new_in_body (main_of p)) = etexts ∙ ap (texts_of p.names 0) variables in
      cc (funs-made, main-made, texts-made)

-- where nothing is wrong it is the core
pub elaborate-fine : (p : ProgramTree) (c : CoreProgram) → faults p ≡ [] → c ≡ core_of_tree p → elaborate p ≡ Ok c
elaborate-fine p c fine e = ap (λ xs. unless_wrong xs (core_of_tree p)) fine ∙ ap Ok (sym e)

-- its input's type and its result are low enough
pub elaborate-fits : (p : ProgramTree) (c : CoreProgram) → elaborate p ≡ Ok c → fits_of c ≡ true
elaborate-fits p c h =
    let limits = elaborated_is_within_limits p c h in
    ap₂ (λ a b. a && b) (le-leb _ 64 limits.input_height) (le-leb _ 64 limits.result_height)
