-- One more argument of a call, with its core, its places and its variables.
use Rattle.std.proofs.Common.{◌≡◌, ℕ, suc, arith, ◌+◌, ◌<◌, ◌≤◌, List, [], ◌∷◌, ◌++◌, length, map, drop, get_or, refl, ap, sym, ◌∙◌, append_assoc}
use Rattle.std.specs.List.{concat}
use Rattle.std.proofs.lemmas.List.{at_drop_more, at_drop_all}
use Rattle.stream_type.specs.StreamType.{StreamType}
use Rattle.delta_tree.specs.declared.expressions.Exp.{Exp}
use Rattle.delta_tree.specs.SyntaxTree.{expression_before}
use Rattle.delta_tree.specs.Tree.{expression_of, expressions_of}
use Rattle.core_term.specs.declared.term.Node.{Node}
use Rattle.core_term.specs.Environment.{NameTypes}
use Rattle.core_term.specs.CoreTerm.{CoreTerms, term_before, term_of, terms_from, places_of}
use Rattle.delta_meaning.specs.TypeNames.{TypeNames}
use Rattle.delta_meaning.specs.SourceBody.{SourceBody}
use Rattle.delta_meaning.specs.NewNames.{Origin, new_in, new_in_arguments}
use Rattle.delta_meaning.specs.NodePlaces.{node_places, argument_places}
use Rattle.delta_meaning.specs.Elaboration.{Numbers, core_at, core_of_arguments}
use Rattle.delta_elab.specs.Sources.{type_in_turn}
use Rattle.delta_elab.proofs.Arguments.{terms_then, terms_then-none, core_of_arguments-next}

-- the argument in turn stands before those left
expressions-next : (es : List Exp) (i : ℕ) (e : Exp) → i < length es → e ≡ get_or es i e
    → expressions_of (drop i es) ≡ expression_before (expression_of e) (expressions_of (drop (i + 1) es))
expressions-next es i e less is =
    at_drop_more expressions_of es i e less ∙ ap (λ a. expression_before (expression_of a) (expressions_of (drop (i + 1) es))) (sym is)

-- one more core stands right before the arguments left
terms_then-node : (cores : List Node) (n : Node) (es : CoreTerms)
    → terms_then (map term_of cores) (term_before (term_of n) es) ≡ terms_then (map term_of (cores ++ n ∷ [])) es
terms_then-node [] n es = refl
terms_then-node (c ∷ cs) n es = ap (term_before (term_of c)) (terms_then-node cs n es)

-- and so its places
places-node : (cores : List Node) (n : Node) (ps : List ℕ) → concat (map places_of cores) ++ (places_of n ++ ps) ≡ concat (map places_of (cores ++ n ∷ [])) ++ ps
places-node [] n ps = grind (arith, append_assoc)
places-node (c ∷ cs) n ps =
    append_assoc (places_of c) (concat (map places_of cs)) (places_of n ++ ps) ∙ ap (λ l. places_of c ++ l) (places-node cs n ps)
    ∙ sym (append_assoc (places_of c) (concat (map places_of (cs ++ n ∷ []))) ps)

module _ (es : List Exp) (i : ℕ) (e : Exp) (less : i < length es) (is : e ≡ get_or es i e) where
  -- the places of one more argument
  pub places-next : (cores : List Node) (n : Node) (all : List ℕ)
      → all ≡ concat (map places_of cores) ++ argument_places (expressions_of (drop i es))
      → places_of n ≡ node_places (expression_of e)
      → all ≡ concat (map places_of (cores ++ n ∷ [])) ++ argument_places (expressions_of (drop (i + 1) es))
  places-next cores n all h p =
      let rest = argument_places (expressions_of (drop (i + 1) es)) in
      h ∙ ap (λ l. concat (map places_of cores) ++ argument_places l) (expressions-next es i e less is)
      ∙ ap (λ l. concat (map places_of cores) ++ (l ++ rest)) (sym p) ∙ places-node cores n rest

  -- the variables of one more argument
  pub variables-next : (before after all : List Origin)
      → all ≡ before ++ new_in_arguments (expressions_of (drop i es))
      → after ≡ before ++ new_in (expression_of e)
      → all ≡ after ++ new_in_arguments (expressions_of (drop (i + 1) es))
  variables-next before after all h q =
      let rest = new_in_arguments (expressions_of (drop (i + 1) es)) in
      h ∙ ap (λ l. before ++ new_in_arguments l) (expressions-next es i e less is)
      ∙ sym (append_assoc before (new_in (expression_of e)) rest) ∙ ap (λ l. l ++ rest) (sym q)

module _ (functions : ℕ → SourceBody) (number : ℕ → ℕ) (names : TypeNames) (numbers : Numbers) (types : NameTypes) where
  -- the cores of arguments whose parameters have these types
  abbrev pub cores_in_turn : List Exp → List StreamType → ℕ → CoreTerms
  cores_in_turn es ts n = core_of_arguments functions number names (expressions_of es) ts numbers types n

  -- the core of one more argument
  pub cores-next : (es : List Exp) (ts : List StreamType) (i : ℕ) (e : Exp) (cores : List Node) (a : Node) (n m : ℕ) (all : CoreTerms)
      → i < length es
      → e ≡ get_or es i e
      → all ≡ terms_then (map term_of cores) (cores_in_turn (drop i es) (drop i ts) n)
      → term_of a ≡ core_at functions number names (expression_of e) numbers types (type_in_turn ts i) n
      → m ≡ n + length (new_in (expression_of e))
      → all ≡ terms_then (map term_of (cores ++ a ∷ [])) (cores_in_turn (drop (i + 1) es) (drop (i + 1) ts) m)
  cores-next es ts i e cores a n m all less is h p q =
      let one : suc i ≡ i + 1 = omega arith in
      let rest = expressions_of (drop (i + 1) es) in
      let first : cores_in_turn (drop i es) (drop i ts) n ≡ core_of_arguments functions number names (expression_before (expression_of e) rest) (drop i ts) numbers types n =
      ap (λ l. core_of_arguments functions number names l (drop i ts) numbers types n) (expressions-next es i e less is) in
      let second = core_of_arguments-next functions number names numbers types (expression_of e) rest ts i n in
      let third : core_of_arguments functions number names rest (drop (suc i) ts) numbers types (n + length (new_in (expression_of e))) ≡ cores_in_turn (drop (i + 1) es) (drop (i + 1) ts) m =
      ap (λ j. core_of_arguments functions number names rest (drop j ts) numbers types (n + length (new_in (expression_of e)))) one
      ∙ ap (λ k. core_of_arguments functions number names rest (drop (i + 1) ts) numbers types k) (sym q) in
      let last = cores_in_turn (drop (i + 1) es) (drop (i + 1) ts) m in
      h ∙ ap (terms_then (map term_of cores)) (first ∙ second ∙ ap (term_before (core_at functions number names (expression_of e) numbers types (type_in_turn ts i) n)) third)
      ∙ ap (λ t. terms_then (map term_of cores) (term_before t last)) (sym p) ∙ terms_then-node cores a last

  -- all of them, where no argument is left
  pub cores-end : (es : List Exp) (ts : List StreamType) (i : ℕ) (cores : List Node) (n : ℕ) (all : CoreTerms)
      → length es ≤ i
      → all ≡ terms_then (map term_of cores) (cores_in_turn (drop i es) (drop i ts) n)
      → terms_from (map term_of cores) ≡ all
  cores-end es ts i cores n all none h =
      sym (h ∙ ap (terms_then (map term_of cores)) (at_drop_all (λ l. cores_in_turn l (drop i ts) n) es i none) ∙ terms_then-none (map term_of cores))
