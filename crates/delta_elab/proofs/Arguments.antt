-- The arguments of a call, one after the other.
use Rattle.std.proofs.Common.{◌≡◌, ℕ, zero, suc, ◌+◌, List, [], ◌∷◌, ◌++◌, length, drop, refl, ap}
use Rattle.stream_type.specs.StreamType.{StreamType}
use Rattle.delta_tree.specs.SyntaxTree.{Expression, Expressions, expression_before}
use Rattle.core_term.specs.Environment.{NameTypes}
use Rattle.core_term.specs.CoreTerm.{CoreTerm, CoreTerms, no_terms, term_before, terms_from}
use Rattle.delta_meaning.specs.TypeNames.{TypeNames}
use Rattle.delta_meaning.specs.SourceBody.{SourceBody}
use Rattle.delta_meaning.specs.NewNames.{new_in}
use Rattle.delta_meaning.specs.Elaboration.{Numbers, core_at, core_of_arguments}
use Rattle.delta_elab.specs.Sources.{type_in_turn}

-- terms in front of arguments
abbrev pub terms_then : List CoreTerm → CoreTerms → CoreTerms
terms_then [] es = es
terms_then (a ∷ as') es = term_before a (terms_then as' es)

-- in front of none they are all
pub terms_then-none : (as' : List CoreTerm) → terms_then as' no_terms ≡ terms_from as'
terms_then-none [] = refl
terms_then-none (a ∷ as') = ap (term_before a) (terms_then-none as')

-- one more stands right before the arguments
pub terms_then-more : (as' : List CoreTerm) (a : CoreTerm) (es : CoreTerms) → terms_then (as' ++ a ∷ []) es ≡ terms_then as' (term_before a es)
terms_then-more [] a es = refl
terms_then-more (b ∷ bs) a es = ap (term_before b) (terms_then-more bs a es)

pub ruleset argument_rows = (terms_then-none, terms_then-more)

module _ (functions : ℕ → SourceBody) (number : ℕ → ℕ) (names : TypeNames) (numbers : Numbers) (types : NameTypes) where
  -- the next argument has the type in turn
  pub core_of_arguments-next : (e : Expression) (es : Expressions) (ts : List StreamType) (i n : ℕ)
      → core_of_arguments functions number names (expression_before e es) (drop i ts) numbers types n
      ≡ term_before (core_at functions number names e numbers types (type_in_turn ts i) n) (core_of_arguments functions number names es (drop (suc i) ts) numbers types (n + length (new_in e)))
  core_of_arguments-next e es [] zero n = refl
  core_of_arguments-next e es [] (suc i) n = refl
  core_of_arguments-next e es (t ∷ ts) zero n = refl
  core_of_arguments-next e es (t ∷ ts) (suc i) n = core_of_arguments-next e es ts i n
